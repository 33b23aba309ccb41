use Rattle.xv_model.proofs.Sums.Room.{mirror-room, release-room, page-room, advance-room}
use Rattle.xv_model.proofs.sum_laws.messages_find_places.Goals as goal

pub returns : goal.returns
returns c = record { mirror = mirror-room; release = release-room; page = page-room; region = advance-room }
