-- `reading::fill` meets its contract. Assumes nothing.
use Rattle.std.proofs.Common.{rules, subst, sym}
use Rattle.std.proofs.KnownBytes.{Consumes-trans}
use Rattle.std.specs.Io.KnownBytes.{Consumes}
use Rattle.reading.proofs.Parts.{part_taken}
use Rattle.reading.proofs.fill.Goals as goal

pub loop-done-preserved : goal.loop-done-preserved
loop-done-preserved g c =
    let l = c.loop-done in
    let read = c.in-Ok.ensures in
    record {
      bound = search rules;
      bytes = subst (Consumes _ _) (sym (part_taken l.done _ c.in-Ok.more l.room c.read.new.buf l.invariant.bound read.bound.0)) (Consumes-trans _ _ _ _ _ l.invariant.bytes read.bytes.0);
    }
