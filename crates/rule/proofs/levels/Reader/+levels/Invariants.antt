-- The cycle of the reader's levels: what each returns is what `parse` gives, by the laws of ReaderLaws. Assumes nothing.
-- A level's measure is eight for each byte of the unread text, and a few by the level.
use Prim.Native.Nat.{◌-◌}
use lib.ListN.{length}
use Rattle.expression.specs.Parse.{alt, alt_rest, conj, conj_rest, seq, seq_rest, pre, post, post_rest, atom, measure}
use Rattle.rule.specs.Reader.{at}
use Rattle.rule.proofs.ReaderLaws.{Upto}
use Rattle.rule.proofs.levels.Reader.+levels.Given as goal

abbrev pub decreases-read_alt : goal.decreases-read_alt
decreases-read_alt l = measure alt l.s.now

abbrev pub decreases-read_atom : goal.decreases-read_atom
decreases-read_atom l = measure atom l.s.now

abbrev pub decreases-read_conj : goal.decreases-read_conj
decreases-read_conj l = measure conj l.s.now

abbrev pub decreases-read_post : goal.decreases-read_post
decreases-read_post l = measure post l.s.now

abbrev pub decreases-read_pre : goal.decreases-read_pre
decreases-read_pre l = measure pre l.s.now

abbrev pub decreases-read_seq : goal.decreases-read_seq
decreases-read_seq l = measure seq l.s.now

abbrev pub invariant-read_alt-loop-offset : goal.invariant-read_alt-loop-offset
invariant-read_alt-loop-offset l =
    Upto alt_rest l.s l.start (at l.initial.self) l.initial.n (at l.self) l.n

abbrev pub decreases-read_alt-loop-offset : goal.decreases-read_alt-loop-offset
decreases-read_alt-loop-offset l = length l.s - l.n

abbrev pub invariant-read_conj-loop-offset : goal.invariant-read_conj-loop-offset
invariant-read_conj-loop-offset l =
    Upto conj_rest l.s l.start (at l.initial.self) l.initial.n (at l.self) l.n

abbrev pub decreases-read_conj-loop-offset : goal.decreases-read_conj-loop-offset
decreases-read_conj-loop-offset l = length l.s - l.n

abbrev pub invariant-read_post-loop-n : goal.invariant-read_post-loop-n
invariant-read_post-loop-n l =
    Upto post_rest l.s l.start (at l.initial.self) l.initial.n (at l.self) l.n

abbrev pub decreases-read_post-loop-n : goal.decreases-read_post-loop-n
decreases-read_post-loop-n l = length l.s - l.n

abbrev pub invariant-read_seq-loop-offset : goal.invariant-read_seq-loop-offset
invariant-read_seq-loop-offset l =
    Upto seq_rest l.s l.start (at l.initial.self) l.initial.n (at l.self) l.n

abbrev pub decreases-read_seq-loop-offset : goal.decreases-read_seq-loop-offset
decreases-read_seq-loop-offset l = length l.s - l.n
