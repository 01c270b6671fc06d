-- What the owners' turns go by is ready for their walks, and what the last turn leaves. Assumes nothing.
use mathlib.Core.Path.{◌≡◌, sym, ap, ◌∙◌, subst}
use mathlib.Core.Bool.{Bool, true, false, false≢true}
use mathlib.Core.List.{List}
use Prim.Native.Nat.{ℕ, ◌+◌, ◌-◌, ◌*◌, ◌≤◌, ◌<◌}
use native.Mathlib.Omega.{arith}
use lib.ListN.{length, get_or, replicate}
use Rattle.bits.specs.Runs.{Small}
use Rattle.event.specs.Event.{Word}
use Rattle.expression.specs.declared.Kind.{Kind}
use Rattle.expression.specs.declared.Kind.TheVariants.{Empty, Epsilon, Letter, Union, Intersection, Concatenation, Complement, Star}
use Rattle.expression.specs.declared.Node.{Node}
use Rattle.expression.specs.Tree.{Tree}
use Rattle.moves.specs.Moves.{kind_at, special_kind, NotFirst}
use Rattle.walk.specs.Course.{HasRoom}
use Rattle.levels.specs.declared.automaton.Automaton.{Automaton}
use Rattle.owners.specs.Filling.{Fillable, FilledTable}
use Rattle.owners.specs.Sides.{Lefts}
use Rattle.owners.specs.Blocks.{FirstNumbers, WholeApart}
use Rattle.owners.specs.Building.{Built}
use Rattle.owners.specs.Turns.{Setting, AllTurned}
use Rattle.owners.proofs.BlockLaws.{blocks_spaced, whole_spaced}
use Rattle.owners.proofs.SideLaws.{lefts_low}
use Rattle.owners.proofs.Tables.{all_placed}

-- ---- what the turns begin with
module _ {t : Tree} {nodes : List Node} {m : ℕ} {w : Word} {numbers whole special : ℕ} (automaton : Automaton)
    (f : Fillable t nodes m w numbers whole special) (first : FirstNumbers nodes m (length w) special automaton.firsts) where
  pub setting : (lefts : List ℕ) → Lefts t lefts → length lefts ≡ 64 → Built nodes m lefts automaton → Setting t nodes m lefts automaton w numbers
  setting lefts left sides built =
      let h = f.rule_fits in
      record {
        recorded = f.recorded;
        events = f.events;
        short = f.short;
        left = left;
        sides = sides;
        built = built;
        spaced = blocks_spaced f.rising f.recorded first numbers f.short (omega arith) f.parts_fit;
      }

module _ {t : Tree} {nodes : List Node} {m : ℕ} {w : Word} {numbers whole special : ℕ} {firsts : List ℕ}
    (f : Fillable t nodes m w numbers whole special) (first : FirstNumbers nodes m (length w) special firsts) where
  pub whole_beside : WholeApart t (length w) firsts numbers whole
  whole_beside = whole_spaced f.rising f.recorded first numbers whole f.short f.rule_fits f.apart

module _ {t : Tree} {nodes : List Node} {m : ℕ} {lefts : List ℕ} {automaton : Automaton} {w : List ℕ} {numbers : ℕ} (S : Setting t nodes m lefts automaton w numbers) where
  pub has_room : (lent : List ℕ) → length lent ≡ numbers → HasRoom automaton w lent
  has_room lent e = (S.short, rw e S.spaced.room)

  -- ---- what a special node's turn needs
  module _ (i : ℕ) (h : i < m) where
    pub own_low : (get_or lefts i 0 ≤ i) × (i < 64)
    own_low = ((lefts_low lefts S.recorded S.left i h).0, omega (arith, S.recorded.few))

    not_first : (k : Kind) → special_kind k ≡ true → NotFirst k i → 0 < i
    not_first Empty e p = absurd (false≢true e)
    not_first Epsilon e p = absurd (false≢true e)
    not_first (Letter c) e p = absurd (false≢true e)
    not_first Union e p = absurd (false≢true e)
    not_first Intersection e p = p
    not_first Concatenation e p = absurd (false≢true e)
    not_first Complement e p = p
    not_first Star e p = absurd (false≢true e)

    pub own_past : special_kind (kind_at nodes i) ≡ true → 0 < i
    own_past e = not_first (kind_at nodes i) e (lefts_low lefts S.recorded S.left i h).1

    -- the exits of its sides
    pub own_exits : special_kind (kind_at nodes i) ≡ true
        → ((0 < 2 * get_or lefts i 0 + 1) × (2 * get_or lefts i 0 + 1 < 128)) × ((0 < 2 * i - 1) × (2 * i - 1 < 128))
    own_exits e =
        let z = own_low in let y = own_past e in
        ((omega arith, omega (arith, z.0, z.1)), (omega arith, omega (arith, z.1)))

  -- ---- and the whole rule's
  pub whole_exit : (0 < 2 * m - 1) × (2 * m - 1 < 128)
  whole_exit =
      let a = S.recorded.long in
      let b = S.recorded.few in
      (omega arith, omega arith)

-- the same with another table of the same length
pub relent : {t : Tree} {nodes : List Node} {m : ℕ} {lefts : List ℕ} {automaton : Automaton} {w : List ℕ} {a b : ℕ} → b ≡ a → Setting t nodes m lefts automaton w a
    → Setting t nodes m lefts automaton w b
relent {t} {nodes} {m} {lefts} {automaton} {w} e s = subst (Setting t nodes m lefts automaton w) (sym e) s

-- ---- what `fill` leaves
module _ {t : Tree} {w : Word} {whole special limit : ℕ} {firsts lent b : List ℕ} {c : ℕ} {spent : Bool}
    (p : AllTurned t w firsts whole limit lent b c spent) (long : length b ≡ length lent) where
  pub filled_cleared : {e : List ℕ} → spent ≡ true → e ≡ replicate (length b) 0
      → FilledTable t w limit whole special lent e c spent
  filled_cleared {e} s z =
      record {
        over = λ _. (
          s,
          p.spends s,
          z ∙ ap (λ (n : ℕ). replicate n 0) long,
        );
        within = λ h. absurd (omega (arith, p.over s));
      }

  pub filled_within : {nodes : List Node} {m : ℕ} → spent ≡ false → Fillable t nodes m w (length lent) whole special
      → FirstNumbers nodes m (length w) special firsts → Small lent → Small b → FilledTable t w limit whole special lent b c spent
  filled_within s f first before small =
      let n = p.counted s in
      record {
        over = λ h. absurd (omega (arith, n.0, n.1));
        within = λ _. (s, n.0, all_placed f first before small long p s);
      }
