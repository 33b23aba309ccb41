-- The kind of a call, as code names it and as the machine does.
use Rattle.xv_model.specs.Step.{Call, SourceRead as ReadsSource, SourceWrite as WritesSource, DestRead as ReadsDest, DestWrite as WritesDest, DestFlush as FlushesDest, Put as Puts, Take as Takes, AckPut as PutsBack, AckTake as TakesBack}
use Rattle.xv_parts.specs.declared.plans.Kind.{Kind}
use Rattle.xv_parts.specs.declared.plans.Kind.TheVariants.{SourceRead, SourceWrite, DestRead, DestWrite, Flush, Put, Take, AckPut, AckTake}

abbrev pub call_of : Kind → Call
call_of SourceRead = ReadsSource
call_of SourceWrite = WritesSource
call_of DestRead = ReadsDest
call_of DestWrite = WritesDest
call_of Flush = FlushesDest
call_of (Put s) = Puts s
call_of (Take s) = Takes s
call_of AckPut = PutsBack
call_of AckTake = TakesBack
