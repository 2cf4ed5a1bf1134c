-- The work of a stage may go to another thread where the devices may that it holds.
use denote.RattleType.{RattleType}
use denote.Param.Send.{IsSend, sendable, view_send}
use denote.Param.SendFields.{variants_send, declared_send}
use Rattle.std.proofs.Crossing.{crosses}
use Rattle.expr_eval.proofs.bound.BoundTree.TheLaws.TheKnot as tree
use Rattle.file_devices.specs.declared.devices.Sink.{Ghosts}
use Rattle.stage_kinds.specs.contracts.file_form.Writing as writing
use Rattle.stage_kinds.specs.contracts.making.Making as making
use Rattle.stage_kinds.specs.contracts.stage_work.StageWork as work
use Rattle.stage_kinds.specs.contracts.gatherer.Gatherer as gatherer
use Rattle.view_works.specs.contracts.collector.Collector as collector
use Rattle.view_works.specs.contracts.held.HeldViews as held
use Rattle.cloud_points.specs.contracts.faults.PointFault as fault
use Rattle.stage_kinds.specs.contracts.view_files.ViewFiles as files
use Rattle.stream_filters.specs.contracts.filter.Filter as filter

-- one search over all variants of a filter would run to its limit
filter-send : IsSend filter.the_row
filter-send = variants_send filter.enum (
  (search (crosses, tree.crosses, sendable) depth 60 fits 20000, tt),
  (
    (search (crosses, tree.crosses, sendable) depth 60 fits 20000, tt),
    (
      (search (crosses, tree.crosses, sendable) depth 60 fits 20000, tt),
      (
        (search (crosses, tree.crosses, sendable) depth 60 fits 20000, tt),
        (
          (search (crosses, tree.crosses, sendable) depth 60 fits 20000, tt),
          (
            (search (crosses, tree.crosses, sendable) depth 60 fits 20000, tt),
            (
              (search (crosses, tree.crosses, sendable) depth 60 fits 20000, tt),
              (
                tt,
                tt,
              ),
            ),
          ),
        ),
      ),
    ),
  ),
)

writing-send : IsSend writing.the_row
writing-send = search (crosses, tree.crosses, sendable) depth 60 fits 20000

making-send : IsSend making.the_row
making-send = variants_send making.enum (
  (search (crosses, sendable) depth 60 fits 20000, tt),
  ((writing-send, tt), tt),
)

held-send : IsSend held.the_row
held-send = search (crosses, sendable) depth 60 fits 20000

fault-send : IsSend fault.the_row
fault-send = search (crosses, sendable) depth 60 fits 20000

gatherer-send : IsSend gatherer.the_row
gatherer-send = view_send _ _ _ _ _ (declared_send gatherer.TheInside.the_type (declared_send (collector.the_type making.the_row) (making-send, (search (crosses, sendable) depth 60 fits 20000, (search sendable, tt))), tt))

files-send : IsSend files.the_row
files-send = declared_send files.the_type (held-send, (writing-send, (search (crosses, fault-send, sendable) depth 60 fits 20000, (search sendable, tt))))

pub work-send : (S K P Q : RattleType) (k : Ghosts K.Denot) → IsSend S → IsSend K → IsSend P → IsSend Q → IsSend (work.the_row S K P Q k)
work-send S K P Q k s-send k-send p-send q-send = variants_send (work.enum S K P Q k) (
  (search (crosses, sendable) depth 60 fits 20000, tt),
  (
    (filter-send, tt),
    (
      (search (crosses, tree.crosses, sendable) depth 60 fits 20000, tt),
      (
        (search (crosses, tree.crosses, sendable) depth 60 fits 20000, tt),
        (
          (gatherer-send, tt),
          (
            (held-send, tt),
            (
              (files-send, tt),
              (
                (search (crosses, tree.crosses, sendable) depth 60 fits 20000, tt),
                tt,
              ),
            ),
          ),
        ),
      ),
    ),
  ),
)
