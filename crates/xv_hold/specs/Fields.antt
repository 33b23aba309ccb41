-- The fields of a hold as its state.
use Rattle.xv_hold.specs.declared.hold.Hold.TheInside.{Inside}
use Rattle.xv_hold.specs.Kept.{State}

abbrev pub state_of : Inside → State
state_of h = record {
  shape = h.layout;
  limit = h.limit;
  slots = h.slots.items;
  links = h.links.items;
  ends = h.ends.items;
  row = h.contents;
  ready = h.ready;
  free = h.free.items;
  applied = h.applied.items;
  recorded = h.recorded.items;
  counts = h.counts.items;
  arrivals = h.arrivals;
}
