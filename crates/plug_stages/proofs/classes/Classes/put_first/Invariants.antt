use Rattle.std.proofs.Common.{◌≡◌, ◌*◌, ◌≤◌, true, length, take, min}
use Rattle.arrayvec.specs.ArrayString.{array_string_len}
use Rattle.plug_stages.specs.Classes.{came_from, spaced}
use Rattle.plug_stages.specs.Printing.{are_printable}
use Rattle.plug_stages.proofs.classes.Classes.put_first.Given as goal

abbrev pub invariant-loop-class : goal.invariant-loop-class
invariant-loop-class l =
    (l.out.bytes ≡ spaced (take 8 (came_from 0 (take l.class l.self.counts))))
    × (l.came ≡ length (came_from 0 (take l.class l.self.counts)))
    × (array_string_len l.out ≤ 25 * min l.came 8)
    × (l.came ≤ l.class)
    × (are_printable l.out.bytes ≡ true)
