-- Cached closures: empty sets, and a slot that is written anew. Assumes nothing.
use mathlib.Core.Path.{◌≡◌, sym, ◌∙◌}
use mathlib.Core.Bool.{false≢true}
use mathlib.Core.Logic.{⊎_elim}
use mathlib.Core.List.{List}
use Prim.Native.Nat.{ℕ, ◌<◌}
use native.Mathlib.Omega.{arith}
use lib.ListN.{length, set, replicate, get_or-replicate}
use lib.Seq.{get_or-set_same, get_or-set_other}
use Rattle.bits.proofs.Digits.{same_or_not}
use Rattle.bits.proofs.Laws.{zeros_bit}
use Rattle.levels.specs.Sets.{AllLed}
use Rattle.walk.specs.declared.cache.Slot.{Slot}
use Rattle.walk.specs.Caches.{no_slot, Remembered}

-- the empty set, and what it leads to
abbrev pub empty_slot : Slot
empty_slot = record { set = replicate 2 0; closure = replicate 2 0 }

pub remember_none : (closed : List ℕ) → Remembered closed (replicate 256 empty_slot)
remember_none closed j l =
    rw (get_or-replicate 256 j empty_slot no_slot l)
    record {
      all = λ s t _ _ e _. absurd (false≢true (sym (zeros_bit 2 s) ∙ e));
      only = λ t _ e. absurd (false≢true (sym (zeros_bit 2 t) ∙ e));
    }

pub remember_law : {closed a b : List ℕ} (cache : List Slot) (e : ℕ) → e < 256 → length cache ≡ 256 → Remembered closed cache → AllLed closed a b
    → Remembered closed (set cache e (record { set = a; closure = b }))
remember_law {closed} {a} {b} cache e k long m led j l =
    ⊎_elim (λ (h : j ≡ e). rw (h, get_or-set_same cache e (record { set = a; closure = b }) no_slot (omega arith)) led)
    (λ (h : j ≡ e → ⊥). rw (get_or-set_other cache e j (record { set = a; closure = b }) no_slot h) (m j l)) (same_or_not j e)
