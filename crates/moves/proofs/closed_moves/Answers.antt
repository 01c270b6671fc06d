-- `closed_moves` closes the free moves of the records. Assumes nothing.
use native.Mathlib.Omega.{arith}
use borrow.Author.Rules.{rules}
use Rattle.moves.proofs.RecordLaws.{moves_low}
use Rattle.moves.proofs.closed_moves.Goals as goal

pub close-requires : goal.close-requires
close-requires c =
    let p = c.requires in (omega arith, moves_low c.args.records.now.m_bound p.sides_before (rw p.cleared at c.add_moves.ensures))

pub returns : goal.returns
returns c =
    record { single = _; moves = rw c.requires.cleared at c.add_moves.ensures; closed = c.close.ensures; long = search rules }
