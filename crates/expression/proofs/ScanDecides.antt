-- The scan finds exactly the sentences; where it breaks off is the length of the longest beginning that some sentence also has.
-- Assumes nothing.
use Prim.Native.Nat.{ℕ, zero, suc, ◌+◌, ◌-◌, ◌≤◌, ◌<◌}
use native.Mathlib.Omega.{arith}
use native.Mathlib.Numerals.{add-one}
use mathlib.Core.Path.{◌≡◌, refl, sym, ap, subst, ◌∙◌}
use mathlib.Core.List.{List, [], ◌∷◌, ◌++◌, append_assoc, append-nil}
use mathlib.Core.Bool.{Bool, true, false, ◌||◌}
use lib.ListN.{length, take}
use lib.Dec.{eqb}
use borrow.Author.Tests.{eqb-true, eqb-false}
use Rattle.event.specs.Event.{is_event}
use Rattle.event.specs.LetterSets.{single, every}
use Rattle.event.proofs.Tests.{T_of, choose}
use Rattle.expression.specs.Bytes.{is_leaf}
use Rattle.expression.specs.Scan.{step_of, step_after, step_before, step_opened, step_letters, finish_at, scan_from, scanned, after_step, Means, ScanStep, ScanResult, counted}
use Rattle.expression.specs.declared.Stage.{Stage}
use Rattle.expression.specs.declared.Stage.TheVariants as stage
use Rattle.expression.specs.declared.ScanState.{ScanState}
use Rattle.std.proofs.Common.{Some, None, Ok, Err}
use Rattle.expression.specs.Tree.{Tree, empty, epsilon, letter}
use Rattle.expression.specs.Grammar.{Atom, Reads, atom_letter, atom_any, atom_empty, atom_epsilon, Sentence, Viable}
use Rattle.expression.proofs.ScanAccepts.{sentence_found}
use Rattle.expression.proofs.ScanSound.{Expects, Ended, none, no_more, no_amp, start, atom_next, bang_next, open_next, star_next, again, amp_next}
use Rattle.expression.proofs.ScanSound.{bar_next, close_next, ended_sentence, ended_viable, expects_viable}
use Rattle.expression.proofs.ScanSound.{Inside, bracket_next, letter_next, set_next, letters_viable, opened_viable}

-- a leaf byte is read as an atom, at any offset
IsLeaf : ℕ → Type 0
IsLeaf b = (t : ℕ → Tree) × ((o : ℕ) → Reads Atom o (b ∷ []) (t o))

leaf_of : (b : ℕ) → is_leaf b ≡ true → IsLeaf b
unfolding IsLeaf
leaf_of b h = go (eqb b 48) (eqb b 49) (eqb b 46) refl refl refl h
  where
    go : (x y z : Bool) → eqb b 48 ≡ x → eqb b 49 ≡ y → eqb b 46 ≡ z → (x || y || z || is_event b) ≡ true → IsLeaf b
    go true y z e f i g = subst IsLeaf (sym (eqb-true b 48 e)) (empty, λ o. atom_empty)
    go false true z e f i g = subst IsLeaf (sym (eqb-true b 49 f)) (epsilon, λ o. atom_epsilon)
    go false false true e f i g = subst IsLeaf (sym (eqb-true b 46 i)) ((λ o. letter o every), λ o. atom_any)
    go false false false e f i g = ((λ o. letter o (single b)), λ o. atom_letter (T_of (is_event b) g))

-- what stands open in a state of the scan after the text p
abbrev Stands : Stage → ℕ → List ℕ → Type 0
Stands stage.Operand d p = Expects d p
Stands stage.Ended d p = Ended d p
Stands stage.Opened d p = Inside d p
Stands stage.Letters d p = (i : Inside d p) × (1 ≤ length i.letters)

abbrev Holds : List ℕ → ScanStep → Type 0
Holds p None = Unit {0}
Holds p (Some q) = Stands q.stage q.depth p

module _ (b d m k : ℕ) (p : List ℕ) where
  at_byte : (c : ℕ) (a : Stage) (e : ℕ) → eqb b c ≡ true → Stands a e (p ++ c ∷ []) → Stands a e (p ++ b ∷ [])
  at_byte c a e h x = subst (λ (n : ℕ). Stands a e (p ++ n ∷ [])) (sym (eqb-true b c h)) x

  opened : Expects d p → Expects (d + 1) (p ++ 40 ∷ [])
  opened x = subst (λ (e : ℕ). Expects e (p ++ 40 ∷ [])) (sym (add-one d)) (open_next d p x)

  leaf_next : is_leaf b ≡ true → Expects d p → Ended d (p ++ b ∷ [])
  unfolding IsLeaf
  leaf_next h x = let l = leaf_of b h in atom_next (b ∷ []) d p l.0 l.1 x

  expected : Expects d p → Holds (p ++ b ∷ []) (step_before d m k b)
  expected x =
      let Q = Holds (p ++ b ∷ []) in
      choose Q (eqb b 33) (λ h. at_byte 33 stage.Operand d h (bang_next d p x))
      (λ n. choose Q (eqb b 40) (λ h. at_byte 40 stage.Operand (d + 1) h (opened x))
      (λ n. choose Q (eqb b 91) (λ h. at_byte 91 stage.Opened d h (bracket_next d p x))
      (λ n. choose Q (is_leaf b) (λ h. leaf_next h x) (λ n. tt))))

  in_brackets : Inside d p → Holds (p ++ b ∷ []) (step_opened d m k b)
  in_brackets x = choose (Holds (p ++ b ∷ [])) (is_event b) (λ h. letter_next b d p (T_of (is_event b) h) x) (λ n. tt)

  after_letter : (i : Inside d p) → 1 ≤ length i.letters → Holds (p ++ b ∷ []) (step_letters d m k b)
  after_letter x l = choose (Holds (p ++ b ∷ [])) (eqb b 93) (λ h. at_byte 93 stage.Ended d h (set_next d p x l)) (λ n. in_brackets x)

  closes : (eqb d 0 ≡ false) → Ended d p → Ended (d - 1) (p ++ 41 ∷ [])
  closes h x =
      let n = eqb-false d 0 h in
      let e : d ≡ suc (d - 1) = omega arith in
      close_next (d - 1) p (subst (λ (j : ℕ). Ended j p) e x)

  ended : Ended d p → Holds (p ++ b ∷ []) (step_after d m k b)
  ended x =
      let Q = Holds (p ++ b ∷ []) in
      choose Q (eqb b 42) (λ h. at_byte 42 stage.Ended d h (star_next d p x))
      (λ n. choose Q (eqb b 124) (λ h. at_byte 124 stage.Operand d h (bar_next d p x))
      (λ n. choose Q (eqb b 38) (λ h. at_byte 38 stage.Operand d h (amp_next d p x))
      (λ n. choose Q (eqb b 41) (λ h. choose Q (eqb d 0) (λ z. tt) (λ z. at_byte 41 stage.Ended (d - 1) h (closes z x)))
      (λ n. choose Q (eqb b 33) (λ h. at_byte 33 stage.Operand d h (bang_next d p (again d p x)))
      (λ n. choose Q (eqb b 40) (λ h. at_byte 40 stage.Operand (d + 1) h (opened (again d p x)))
      (λ n. choose Q (eqb b 91) (λ h. at_byte 91 stage.Opened d h (bracket_next d p (again d p x)))
      (λ n. choose Q (is_leaf b) (λ h. leaf_next h (again d p x)) (λ n. tt))))))))

stands : (b : ℕ) (p : List ℕ) (d : ℕ) (a : Stage) (m k : ℕ) → Stands a d p
    → Holds (p ++ b ∷ []) (step_of (record { depth = d; stage = a; nodes = m; specials = k }) b)
stands b p d stage.Operand m k x = expected b d m k p x
stands b p d stage.Ended m k x = ended b d m k p x
stands b p d stage.Opened m k x = in_brackets b d m k p x
stands b p d stage.Letters m k x = after_letter b d m k p x.0 x.1

viable : (a : Stage) (d : ℕ) (p : List ℕ) → Stands a d p → Viable p
viable stage.Operand d p x = expects_viable d p x
viable stage.Ended d p x = ended_viable d p x
viable stage.Opened d p x = opened_viable d p x
viable stage.Letters d p x = letters_viable d p x.0 x.1

-- where a scan of s that begins at i in the state q stops, after p
record Stop (s p : List ℕ) (i : ℕ) (q : ScanState) (j : ℕ) : Type 0 where
  count : ℕ
  place : j ≡ i + count
  within : count ≤ length s
  begins : Viable (p ++ take count s)
  stuck : (n : ℕ) → count < n → n ≤ length s → (x : List ℕ) → scan_from (take n s ++ x) i q ≡ Err j

abbrev Ends : List ℕ → List ℕ → ℕ → ScanState → ScanResult → Type 0
Ends s p i q (Ok z) = Sentence (p ++ s)
Ends s p i q (Err j) = Stop s p i q j

same_text_lem : (u v : List ℕ) → u ≡ v → Viable u → Viable v
same_text_lem u v e x = subst (λ (s : List ℕ). Viable s) e x

at_end : (p : List ℕ) (i : ℕ) (q : ScanState) → Stands q.stage q.depth p → Stop [] p i q i
at_end p i q x =
    record {
      count = 0;
      place = omega arith;
      within = omega arith;
      begins = same_text_lem p (p ++ []) (sym (append-nil p)) (viable q.stage q.depth p x);
      stuck = λ n h g x. absurd (omega arith);
    }

ends_sentence : (p : List ℕ) (d : ℕ) → d ≡ 0 → Ended d p → Sentence (p ++ [])
ends_sentence p d e x = subst Sentence (sym (append-nil p)) (ended_sentence p (subst (λ (n : ℕ). Ended n p) e x))

-- at the end of the text
finishes : (p : List ℕ) (i : ℕ) (q : ScanState) (a : Stage) → q.stage ≡ a → Stands a q.depth p → Stop [] p i q i → Ends [] p i q (finish_at a i q)
finishes p i q stage.Operand e x stop = stop
finishes p i q stage.Ended e x stop =
    choose (Ends [] p i q) (eqb q.depth 0) (λ z. ends_sentence p q.depth (eqb-true q.depth 0 z) x) (λ z. stop)
finishes p i q stage.Opened e x stop = stop
finishes p i q stage.Letters e x stop = stop

here : (b : ℕ) (s p : List ℕ) (i : ℕ) (q : ScanState) → Stands q.stage q.depth p → step_of q b ≡ None → Stop (b ∷ s) p i q i
unfolding scan_from
here b s p i q x e =
    record {
      count = 0;
      place = omega arith;
      within = omega arith;
      begins = same_text_lem p (p ++ []) (sym (append-nil p)) (viable q.stage q.depth p x);
      stuck = go;
    }
  where
    go : (n : ℕ) → 0 < n → n ≤ suc (length s) → (x : List ℕ) → scan_from (take n (b ∷ s) ++ x) i q ≡ Err i
    go zero h g x = absurd (omega arith)
    go (suc n) h g x = ap (after_step (scan_from (take n s ++ x)) i) e

later : (b : ℕ) (s p : List ℕ) (i : ℕ) (q r : ScanState) (j : ℕ) → step_of q b ≡ Some r → Stop s (p ++ b ∷ []) (i + 1) r j
    → Stop (b ∷ s) p i q j
unfolding scan_from
later b s p i q r j e t =
    record {
      count = suc t.count;
      place = omega (arith, t.place);
      within = omega (arith, t.within);
      begins = same_text_lem _ _ (append_assoc p (b ∷ []) (take t.count s)) t.begins;
      stuck = go;
    }
  where
    go : (n : ℕ) → suc t.count < n → n ≤ suc (length s) → (x : List ℕ) → scan_from (take n (b ∷ s) ++ x) i q ≡ Err j
    go zero h g x = absurd (omega arith)
    go (suc n) h g x = ap (after_step (scan_from (take n s ++ x)) i) e ∙ t.stuck n (omega arith) (omega arith) x

passed_on : (b : ℕ) (s p : List ℕ) (i : ℕ) (q r : ScanState) → step_of q b ≡ Some r → (f : ScanResult) → Ends s (p ++ b ∷ []) (i + 1) r f
    → Ends (b ∷ s) p i q f
passed_on b s p i q r e (Ok z) x = subst Sentence (append_assoc p (b ∷ []) s) x
passed_on b s p i q r e (Err j) x = later b s p i q r j e x

turned : (b : ℕ) (s p : List ℕ) (i : ℕ) (q : ScanState) → Stands q.stage q.depth p → (o : ScanStep) → step_of q b ≡ o
    → Holds (p ++ b ∷ []) o
    → ((r : ScanState) → Stands r.stage r.depth (p ++ b ∷ []) → Ends s (p ++ b ∷ []) (i + 1) r (scan_from s (i + 1) r))
    → Ends (b ∷ s) p i q (after_step (scan_from s) i o)
turned b s p i q x None e h ih = here b s p i q x e
turned b s p i q x (Some r) e h ih = passed_on b s p i q r e (scan_from s (i + 1) r) (ih r h)

ends : (s p : List ℕ) (i : ℕ) (q : ScanState) → Stands q.stage q.depth p → Ends s p i q (scan_from s i q)
unfolding scan_from
ends [] p i q x = finishes p i q q.stage refl x (at_end p i q x)
ends (b ∷ s) p i q x = turned b s p i q x (step_of q b) refl (stands b p q.depth q.stage q.nodes q.specials x)
    (λ r h. ends s (p ++ b ∷ []) (i + 1) r h)

-- ---- the result
abbrev initial : ScanState
initial = record { depth = 0; stage = stage.Operand; nodes = 0; specials = 0 }

meant : (s : List ℕ) (f : ScanResult) → scanned s ≡ f → Ends s [] 0 initial f → Means s f
meant s (Ok z) e x =
    let c = sym e ∙ sentence_found x.1 in
    record { tree = x.0; reads = x.1; nodes = cc; special = cc }
meant s (Err j) e x =
    let z : x.count ≡ j = omega (arith, x.place) in
    record {
      none_such = λ y. let c = sym e ∙ sentence_found y.1 in apart c;
      place = record {
        within = omega (arith, x.within);
        viable = subst (λ (n : ℕ). Viable (take n s)) z x.begins;
        longest = λ n h g v. apart (sym (x.stuck n (omega arith) g v.0) ∙ sentence_found v.1.1);
      };
    }
  where
    apart : {m k : ℕ} → Err j ≡ counted m k → ⊥
    apart c = let n : ◌≡◌ {A = ℕ} 0 1 = cc in omega arith

pub scan_right : (s : List ℕ) → Means s (scanned s)
scan_right s = meant s (scanned s) refl
    (ends s [] 0 initial (record { outer = []; left = []; whole = refl; open' = none; before = no_more (no_amp start) }))
