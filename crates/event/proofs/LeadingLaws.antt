-- Laws of `leading`: it is where the first element stands that does not pass. Assumes nothing.
use Prim.Native.Nat.{ℕ, suc, ◌+◌, ◌≤◌, ◌<◌}
use mathlib.Core.Path.{◌≡◌, refl, sym, ap, ◌∙◌}
use mathlib.Core.List.{List, [], ◌∷◌, ◌++◌}
use mathlib.Core.Bool.{Bool, true, false, cond, not, false≢true}
use Rattle.std.specs.Option.{is_some}
use lib.ListN.{length, get_or, drop}
use Rattle.std.proofs.Common.{Option, Some, None, ltb, one-add}
use borrow.Author.Tests.{lt-ltb, le-ltb, ltb-true, ltb-false}
use Rattle.std.specs.List.{prefix_len, position_or_len}
use Rattle.std.proofs.lemmas.List.Folds.{length-prefix_len}
use Rattle.std.proofs.lemmas.List.Sums.{prefix_len-le-length, prefix_len_passes, prefix_len_stops, prefix_len_is, prefix_len-drop_yes, prefix_len-drop_no, prefix_len-drop_all}
use Rattle.event.specs.Leading.{leading, first_other, place_in}

module _ (f : ℕ → Bool) where
  -- the first n elements pass, and the next one, if there is one, does not
  pub record Leads (s : List ℕ) (n : ℕ) : Type 0 where
    pub within : n ≤ length s
    pub before : (i : ℕ) → i < n → f (get_or s i 0) ≡ true
    pub there : n < length s → f (get_or s n 0) ≡ false

  -- std's word for the same number
  pub leading_prefix : (s : List ℕ) → leading f s ≡ prefix_len f s
  unfolding leading
  leading_prefix s = length-prefix_len f s

  pub leading_found : (s : List ℕ) → Leads s (leading f s)
  leading_found s = rw leading_prefix (record {
    within = prefix_len-le-length f s;
    before = λ i h. prefix_len_passes f s i 0 h;
    there = λ h. prefix_len_stops f s 0 h;
  })

  pub leading_is : (s : List ℕ) (n : ℕ) → Leads s n → leading f s ≡ n
  leading_is s n x = leading_prefix s ∙ prefix_len_is f s n 0 x.within x.before x.there

  -- element by element
  pub leading_pass : (b : ℕ) (s : List ℕ) → f b ≡ true → leading f (b ∷ s) ≡ suc (leading f s)
  leading_pass b s e = rw (leading_prefix, leading_prefix, e) (one-add (prefix_len f s))

  pub leading_stop : (b : ℕ) (s : List ℕ) → f b ≡ false → leading f (b ∷ s) ≡ 0
  leading_stop b s e = rw (leading_prefix, e)

  -- elements that pass, up to one that does not; P says of them, element by element, that they do
  pub leading_up_to : (P : List ℕ → Type 0) → ((b : ℕ) (u : List ℕ) → P (b ∷ u) → (f b ≡ true) × P u) → (c : ℕ) → f c ≡ false
      → (u s : List ℕ) → P u → leading f (u ++ c ∷ s) ≡ length u
  leading_up_to P each c e [] s h = leading_stop c s e
  leading_up_to P each c e (b ∷ u) s h = let x = each b u h in leading_pass b (u ++ c ∷ s) x.0 ∙ ap suc (leading_up_to P each c e u s x.1)

  -- one turn of a search for it
  pub leading_on : (s : List ℕ) (i : ℕ) → i < length s → f (get_or s i 0) ≡ true → leading f (drop i s) ≡ suc (leading f (drop (i + 1) s))
  leading_on s i h e = rw (leading_prefix (drop i s), leading_prefix (drop (i + 1) s)) (prefix_len-drop_yes f s i 0 h e ∙ one-add (prefix_len f (drop (i + 1) s)))

  pub leading_here : (s : List ℕ) (i : ℕ) → i < length s → f (get_or s i 0) ≡ false → leading f (drop i s) ≡ 0
  leading_here s i h e = leading_prefix (drop i s) ∙ prefix_len-drop_no f s i 0 h e

  pub leading_end : (s : List ℕ) (i : ℕ) → length s ≤ i → leading f (drop i s) ≡ 0
  leading_end s i h = leading_prefix (drop i s) ∙ prefix_len-drop_all f s i h

  -- the place of the first element that does not pass is that number, unless all pass
  pub first_other_is : (s : List ℕ) → first_other f s ≡ place_in s (leading f s)
  first_other_is s = ap (place_in s) (go s ∙ sym (leading_prefix s))
    where
      same : (t : Bool) → not (not t) ≡ t
      same true = refl
      same false = refl

      go : (s : List ℕ) → position_or_len (λ b. not (f b)) s ≡ prefix_len f s
      go [] = refl
      go (b ∷ s) = rw (same (f b), go s)

-- a place in a list, and none
pub place_found : (s : List ℕ) (n i : ℕ) → n ≡ i → i < length s → Some i ≡ place_in s n
place_found s n i e h = rw (e, lt-ltb i (length s) h)

pub place_none : (s : List ℕ) (n : ℕ) → length s ≤ n → None ≡ place_in s n
place_none s n h = rw (le-ltb n (length s) h)

pub place_is : (s : List ℕ) (n i : ℕ) → Some i ≡ place_in s n → (n ≡ i) × (i < length s)
place_is s n i e = go (ltb n (length s)) refl e
  where
    go : (t : Bool) → ltb n (length s) ≡ t → Some i ≡ cond t (Some n) None → (n ≡ i) × (i < length s)
    go true h e = let q : i ≡ n = cc in (sym q, rw q (ltb-true n (length s) h))
    go false h e = absurd (cc)

pub no_place : (s : List ℕ) (n : ℕ) → None ≡ place_in s n → length s ≤ n
no_place s n e = go (ltb n (length s)) refl e
  where
    go : (t : Bool) → ltb n (length s) ≡ t → None ≡ cond t (Some n) None → length s ≤ n
    go true h e = absurd (cc)
    go false h e = ltb-false n (length s) h

pub some_place : (s : List ℕ) (n : ℕ) {o : Option ℕ} {t : Bool} → o ≡ place_in s n → t ≡ is_some o → t ≡ true → n < length s
some_place s n e h g = go (ltb n (length s)) refl (sym (ap is_some e) ∙ sym h ∙ g)
  where
    go : (t : Bool) → ltb n (length s) ≡ t → is_some (cond t (Some n) None) ≡ true → n < length s
    go true q e = ltb-true n (length s) q
    go false q e = absurd (false≢true e)

pub none_placed : (s : List ℕ) (n : ℕ) {o : Option ℕ} {t : Bool} → o ≡ place_in s n → t ≡ is_some o → t ≡ false → length s ≤ n
none_placed s n e h g = go (ltb n (length s)) refl (sym (ap is_some e) ∙ sym h ∙ g)
  where
    go : (t : Bool) → ltb n (length s) ≡ t → is_some (cond t (Some n) None) ≡ false → length s ≤ n
    go true q e = absurd (false≢true (sym e))
    go false q e = ltb-false n (length s) q
