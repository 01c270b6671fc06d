-- A start whose walk goes no further than its initial states. Assumes nothing.
use mathlib.Core.Path.{◌≡◌, refl, sym, ap, ◌∙◌}
use mathlib.Core.Bool.{Bool, true}
use mathlib.Core.Logic.{◌⊎◌, inl, inr, ⊎_elim}
use mathlib.Core.List.{List}
use Prim.Native.Nat.{ℕ, ◌+◌, ◌-◌, ◌*◌, ◌/◌, ◌%◌, ◌≤◌, ◌<◌}
use native.Mathlib.Omega.{arith}
use lib.ListN.{length, replicate}
use Rattle.bits.specs.Bit.{bit_at}
use Rattle.moves.specs.Reached.{Reached, start, after}
use Rattle.marks.specs.declared.target.Target.{Target}
use Rattle.marks.specs.Marks.{StoredAt, StartsAt}
use Rattle.marks.specs.Ends.{Initial, EndsThere, EndedRow}
use Rattle.marks.proofs.EndLaws.{at_number, marks_size}
use Rattle.walk.proofs.Ready.{Ready}
use Rattle.walk.specs.Course.{Course, FreeStep, LetterStep, SpanStep, Step}
use Rattle.walk.specs.Starts.{Started}

-- ---- a walk that goes no further

module _ {t : Course} (o : Target) {i : ℕ} {a : List ℕ} (ready : Ready t) (within : i ≤ length t.word)
    (initial : Initial t.closed o a)
    (d : EndsThere t.letters t.specials t.word i a) where
  module _ {m : List ℕ} (stored : StoredAt (replicate 512 0) a i m) where
    free_from : (s q : ℕ) → s < 128 → q / 128 ≡ i → bit_at t.closed (128 * s + q % 128) ≡ true → Step t (128 * i + s) q
    free_from s q l n h =
        let k : (128 * i + s) % 128 ≡ s = omega arith in
        inl record { number = omega arith; move = rw k h }

    only_marked : (q : ℕ) → bit_at m q ≡ true → Reached (StartsAt o i) (Step t) q
    only_marked q e =
        let n = at_number stored q e in
        ⊎_elim (λ h. after (start (inl refl)) (free_from (o.left - 1) q (omega arith) n h))
        (λ h. after (start (inr refl)) (free_from (o.right - 1) q (omega arith) n h))
        ((initial (q % 128) (omega arith)).0 (sym (stored.here q n) ∙ e))

    -- a free move leads from an initial state to another
    follows : (s u : ℕ) → s < 128 → u < 128 → bit_at t.closed (128 * s + u) ≡ true → bit_at a s ≡ true → bit_at a u ≡ true
    follows s u l k h e =
        (initial u k).1
        (⊎_elim (λ z. inl (ready.transitive s (o.left - 1) u l (omega arith) k z h))
        (λ z. inr (ready.transitive s (o.right - 1) u l (omega arith) k z h)) ((initial s l).0 e))

    step_stays : (p q : ℕ) → bit_at m p ≡ true → Step t p q → bit_at m q ≡ true
    step_stays p q e u =
        let n = at_number stored p e in
        let h = sym (stored.here p n) ∙ e in
        ⊎_elim
        (λ (f : FreeStep t.closed p q).
        stored.here q (f.number ∙ n) ∙ follows (p % 128) (q % 128) (omega arith) (omega arith) f.move h)
        (λ v.
        ⊎_elim
        (λ (f : LetterStep t.letters t.word p q).
        let w = f.within in
        absurd (d.silent (omega arith) (p % 128 + 1) record {
          state = p % 128;
          small = omega arith;
          exit = refl;
          there = h;
          letter = rw n at f.event;
        }))
        (λ (f : SpanStep t.specials t.firsts t.table (length t.word) p q).
        absurd (d.plain (p % 128) (omega arith) h f.special))
        v)
        u

    begins : (s : ℕ) → s < 128 → (bit_at t.closed (128 * (o.left - 1) + s) ≡ true) ⊎ (bit_at t.closed (128 * (o.right - 1) + s) ≡ true)
        → bit_at m (128 * i + s) ≡ true
    begins s l h =
        let k : (128 * i + s) % 128 ≡ s = omega arith in
        stored.here (128 * i + s) (omega arith) ∙ ap (bit_at a) k ∙ (initial s l).1 h

    all_marked : {q : ℕ} → Reached (StartsAt o i) (Step t) q → bit_at m q ≡ true
    all_marked {q} (start s) =
        ⊎_elim
        (λ (e : q ≡ 128 * i + (o.left - 1)).
        ap (bit_at m) e ∙ begins (o.left - 1) (omega arith) (inl (ready.reflexive (o.left - 1) (omega arith))))
        (λ (e : q ≡ 128 * i + (o.right - 1)).
        ap (bit_at m) e ∙ begins (o.right - 1) (omega arith) (inr (ready.reflexive (o.right - 1) (omega arith))))
        s
    all_marked {q} (after {p} r u) = step_stays p q (all_marked r) u

  pub ended_started : {b : List ℕ} {count limit c : ℕ} {spent : Bool}
      → EndedRow t.table a o i (length t.word) count limit b c spent → Started t o i count limit b c spent
  ended_started s =
      let z = marks_size s.marked (length t.word) within in
      record {
        marks = s.marks;
        only = only_marked s.marked;
        all = λ _ q r. all_marked s.marked r;
        counted = λ f. let e = s.counted f in omega arith;
        over = λ f. let e = s.over f in omega arith;
        spends = s.spends;
        bounded = s.bounded;
        row = s.row;
        kept = s.kept;
      }
