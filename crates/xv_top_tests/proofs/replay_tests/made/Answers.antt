use Rattle.std.proofs.Common.{List, ◌∙◌, [], ap}
use Rattle.xv_base.specs.declared.pattern.Init.{Init}
use Rattle.xv_device.specs.Device.{Plan}
use Rattle.xv_device.specs.Memory.{Device, fresh}
use Rattle.xv_job.specs.Written.{Written, job_of}
use Rattle.xv_core.proofs.Beginning.InMemory.{begins-with}
use Rattle.xv_top_tests.proofs.replay_tests.made.Goals as goal

abbrev no_fault : Plan
no_fault = record { reads = []; writes = []; flushes = [] }

pub returns-clause-fit : goal.returns-clause-fit
returns-clause-fit c =
    let job = c.args.job in
    record {
      source = c.in_ok-source.ensures.fits;
      first =
          ap (λ (d : Device). d.contents) c.in_ok-source.ensures.fresh
          ∙ ap (λ (is : List Init). (fresh job.shape is no_fault).contents) (c.deref.ensures.value ∙ ap (λ (w : Written). w.init) c.job.view_is)
          ∙ begins-with (job_of job) no_fault;
      dest = c.in_ok-dest.ensures.fits;
      streams = c.in_ok-wires.ensures.each_stream;
      wires = c.in_ok-wires.ensures.each;
      back = c.in_ok-back.ensures.back;
    }
