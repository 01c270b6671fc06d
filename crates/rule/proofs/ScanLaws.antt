-- Laws of the scan that the proof of its code cites. Assumes nothing.
use Prim.Native.Nat.{ℕ, ◌+◌, ◌≤◌, ◌<◌}
use native.Mathlib.Omega.{arith}
use mathlib.Core.Path.{◌≡◌, refl, sym, ap, subst, ◌∙◌}
use mathlib.Core.List.{List}
use mathlib.Core.Bool.{Bool, cond}
use lib.ListN.{length, get_or, drop}
use lib.Seq.{drop-length}
use lib.Dec.{eqb}
use Rattle.event.specs.Event.{is_event}
use Rattle.expression.specs.Bytes.{is_leaf}
use Rattle.expression.specs.declared.Stage.{Stage}
use Rattle.expression.specs.declared.Stage.TheVariants.{Operand, Ended, Opened, Letters}
use Rattle.expression.specs.Scan.{step_at, step_of, scan_from, finish, after_step, ScanStep}
use Rattle.expression.specs.declared.ScanState.{ScanState}
use Rattle.std.proofs.Common.{Some, None, Err}
use Rattle.event.proofs.Tails.{rest_at}
use Rattle.event.proofs.Tests.{choose}

-- what holds of both sides holds of the one that a test takes
both : {A : Type 0} (P : A → Type 0) (t : Bool) {a b : A} → P a → P b → P (cond t a b)
both P t x y = choose P t (λ e. x) (λ e. y)

-- a step adds one open parenthesis, two nodes and one special node at most
pub record Near (q p : ScanState) : Type 0 where
  pub depth : p.depth ≤ q.depth + 1
  pub nodes : p.nodes ≤ q.nodes + 2
  pub specials : p.specials ≤ q.specials + 1

abbrev Within : ScanState → ScanStep → Type 0
Within q None = Unit {0}
Within q (Some p) = Near q p

step_near : (q : ScanState) (b : ℕ) → Within q (step_of q b)
step_near q b =
    go q.stage
  where
    go : (a : Stage) → Within q (step_at a q.depth q.nodes q.specials b)
    go Operand =
        both (Within q) (eqb b 33) (omega arith) (both (Within q) (eqb b 40) (omega arith)
        (both (Within q) (eqb b 91) (omega arith) (both (Within q) (is_leaf b) (omega arith) tt)))
    go Ended =
        both (Within q) (eqb b 42) (omega arith) (both (Within q) (eqb b 124) (omega arith) (both (Within q) (eqb b 38) (omega arith)
        (both (Within q) (eqb b 41) (both (Within q) (eqb q.depth 0) tt (omega arith))
        (both (Within q) (eqb b 33) (omega arith) (both (Within q) (eqb b 40) (omega arith)
        (both (Within q) (eqb b 91) (omega arith) (both (Within q) (is_leaf b) (omega arith) tt)))))))
    go Opened = both (Within q) (is_event b) (omega arith) tt
    go Letters = both (Within q) (eqb b 93) (omega arith) (both (Within q) (is_event b) (omega arith) tt)

pub near : (q p : ScanState) (b : ℕ) → Some p ≡ step_of q b → Near q p
near q p b e = subst (Within q) (sym e) (step_near q b)

-- one turn of the scan
turn : (s : List ℕ) (i : ℕ) (q : ScanState) → i < length s → (o : ScanStep) → o ≡ step_of q (get_or s i 0)
    → scan_from (drop i s) i q ≡ after_step (scan_from (drop (i + 1) s)) i o
unfolding scan_from
turn s i q h o e =
    ap (λ (l : List ℕ). scan_from l i q) (rest_at s i h) ∙ ap (after_step (scan_from (drop (i + 1) s)) i) (sym e)

pub turn_stuck : (s : List ℕ) (i : ℕ) (q : ScanState) → i < length s → None ≡ step_of q (get_or s i 0) → scan_from (drop i s) i q ≡ Err i
turn_stuck s i q h e = turn s i q h None e

pub turn_on : (s : List ℕ) (i : ℕ) (q p : ScanState) → i < length s → Some p ≡ step_of q (get_or s i 0)
    → scan_from (drop i s) i q ≡ scan_from (drop (i + 1) s) (i + 1) p
turn_on s i q p h e = turn s i q h (Some p) e

pub turn_end : (s : List ℕ) (i : ℕ) (q : ScanState) → i ≡ length s → scan_from (drop i s) i q ≡ finish i q
unfolding scan_from
turn_end s i q e = ap (λ (j : ℕ). scan_from (drop j s) i q) e ∙ rw (drop-length s) refl
