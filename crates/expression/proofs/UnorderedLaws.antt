-- `unordered_at` finds the first letter inside brackets that is not above the one before it. Assumes nothing.
use Prim.Native.Nat.{ℕ, zero, suc, ◌+◌, ◌≤◌, ◌<◌}
use native.Mathlib.Omega.{arith}
use mathlib.Core.Path.{◌≡◌, refl, sym, ap, subst, subst₂, ◌∙◌}
use native.Mathlib.Decide.{dec_lt}
use mathlib.Core.Bool.{true, false, ◌&&◌, true≢false, false≢true}
use mathlib.Core.List.{List, [], ◌∷◌, ◌++◌, append_assoc}
use lib.Dec.{T, eqb, ltb, leb, leb→le, le→leb}
use lib.ListN.{length, get_or, drop, length-append, drop_of_length-le}
use borrow.Author.Tests.{eqb-true}
use Rattle.event.specs.Event.{is_event, Events}
use Rattle.event.proofs.EventLaws.{event_not}
use Rattle.event.proofs.Tails.{rest_at}
use Rattle.event.proofs.Tests.{T_of, of_T, and_split, and_join, choose}
use Rattle.expression.proofs.ScanSound.{events_append}
use Rattle.expression.specs.Unordered.{Unordered, FirstUnordered, Ordered}
use Rattle.expression.specs.OrderComputed.{inside, noted, not_above, falls, unordered_from, unordered_at}
use Rattle.expression.specs.declared.Noted.{Noted}
use Rattle.expression.specs.declared.Noted.TheVariants.{Outside, Opened, Last}

-- ---- byte after byte: the byte at i falls
unfoldable pub FallsAt : Noted → List ℕ → ℕ → Type 0
FallsAt q [] i = ⊥
FallsAt q (b ∷ s) zero = T (falls q b)
FallsAt q (b ∷ s) (suc i) = FallsAt (noted q b) s i

-- the first byte that falls
record First (q : Noted) (s : List ℕ) (n : ℕ) : Type 0 where
  within : n ≤ length s
  there : n < length s → FallsAt q s n
  before : (j : ℕ) → j < n → FallsAt q s j → ⊥

first_here : (q : Noted) (b : ℕ) (s : List ℕ) → falls q b ≡ true → First q (b ∷ s) 0
unfolding FallsAt
first_here q b s e = record { within = omega arith; there = λ h. T_of (falls q b) e; before = λ j h. absurd (omega arith) }

first_later : (q : Noted) (b : ℕ) (s : List ℕ) (n : ℕ) → falls q b ≡ false → First (noted q b) s n → First q (b ∷ s) (suc n)
unfolding FallsAt
first_later q b s n e f = record { within = omega (arith, f.within); there = λ h. f.there (omega arith); before = go }
  where
    go : (j : ℕ) → j < suc n → FallsAt q (b ∷ s) j → ⊥
    go zero h x = true≢false (sym (of_T (falls q b) x) ∙ e)
    go (suc j) h x = f.before j (omega arith) x

found : (q : Noted) (s : List ℕ) → First q s (unordered_from q s)
unfolding unordered_from FallsAt
found q [] = record { within = omega arith; there = λ h. absurd (omega arith); before = λ j h. absurd (omega arith) }
found q (b ∷ s) = choose (First q (b ∷ s)) (falls q b) (λ e. first_here q b s e)
    (λ e. first_later q b s (unordered_from (noted q b) s) e (found (noted q b) s))

-- ---- a byte that falls is such a letter: what is noted says how the text before it ends
data Passed : Noted → List ℕ → Type 0 where
  outside : {p : List ℕ} → Passed Outside p
  opened : (x : List ℕ) → Passed Opened (x ++ 91 ∷ [])
  lettered : (x l : List ℕ) (c : ℕ) → Events (l ++ c ∷ []) → Passed (Last c) (x ++ 91 ∷ (l ++ c ∷ []))

same_text_lem : {q : Noted} {p v : List ℕ} → p ≡ v → Passed q p → Passed q v
same_text_lem {q} e x = subst (Passed q) e x

pass_letter : {q : Noted} {p : List ℕ} (b : ℕ) → T (is_event b) → inside q ≡ true → Passed q p → Passed (Last b) (p ++ b ∷ [])
pass_letter b e h outside = absurd (false≢true h)
pass_letter b e h (opened x) = same_text_lem (sym (append_assoc x (91 ∷ []) (b ∷ []))) (lettered x [] b (e, tt))
pass_letter b e h (lettered x l c g) =
    same_text_lem (sym (append_assoc x (91 ∷ (l ++ c ∷ [])) (b ∷ []))) (lettered x (l ++ c ∷ []) b (events_append (l ++ c ∷ []) (b ∷ []) g (e, tt)))

pass : (q : Noted) (b : ℕ) (p : List ℕ) → Passed q p → Passed (noted q b) (p ++ b ∷ [])
pass q b p x =
    choose (λ (r : Noted). Passed r (p ++ b ∷ [])) (eqb b 91)
    (λ e. subst (λ (c : ℕ). Passed Opened (p ++ c ∷ [])) (sym (eqb-true b 91 e)) (opened p))
    (λ n. choose (λ (r : Noted). Passed r (p ++ b ∷ [])) (is_event b && inside q)
    (λ e. let h = and_split (is_event b) (inside q) (T_of _ e) in pass_letter b h.0 (of_T (inside q) h.1) x)
    (λ n. outside))

fall_there : {q : Noted} {p : List ℕ} (b : ℕ) (s : List ℕ) → Passed q p → T (is_event b) → T (not_above q b) → Unordered (p ++ b ∷ s) (length p)
fall_there b s outside e h = absurd h
fall_there b s (opened x) e h = absurd h
fall_there b s (lettered x l c g) e h =
    record {
      before = x;
      letters = l;
      last = c;
      next = b;
      rest = s;
      whole = simp append_assoc;
      inside = subst Events (append_assoc l (c ∷ []) (b ∷ [])) (events_append (l ++ c ∷ []) (b ∷ []) g (e, tt));
      not_above = leb→le b c h;
      place = omega (arith, length-append x (91 ∷ (l ++ c ∷ [])), length-append l (c ∷ []));
    }

sound : (s : List ℕ) (p : List ℕ) (q : Noted) (i : ℕ) → Passed q p → FallsAt q s i → Unordered (p ++ s) (length p + i)
unfolding FallsAt
sound [] p q i x h = absurd h
sound (b ∷ s) p q zero x h =
    let g = and_split (is_event b) (not_above q b) h in
    let z : length p ≡ length p + 0 = omega arith in
    subst (Unordered (p ++ b ∷ s)) z (fall_there b s x g.0 g.1)
sound (b ∷ s) p q (suc i) x h =
    let z : length (p ++ b ∷ []) + i ≡ length p + suc i = omega (arith, length-append p (b ∷ [])) in
    subst₂ Unordered (append_assoc p (b ∷ []) s) z (sound s (p ++ b ∷ []) (noted q b) i (pass q b p x) h)

-- ---- such a letter falls, whatever was noted before its bracket
noted_letter : (q : Noted) (b : ℕ) → T (is_event b) → inside q ≡ true → noted q b ≡ Last b
noted_letter q b e h = rw (event_not b 91 e tt, of_T (is_event b) e, h)

after_letters : (l : List ℕ) (q : Noted) (c b : ℕ) (s : List ℕ) → inside q ≡ true → Events (l ++ c ∷ b ∷ []) → b ≤ c → FallsAt q (l ++ c ∷ b ∷ s) (length l + 1)
unfolding FallsAt
after_letters [] q c b s h e n =
    let f : T (falls (Last c) b) = and_join (is_event b) (leb b c) e.1.0 (le→leb b c n) in
    subst (λ (r : Noted). T (falls r b)) (sym (noted_letter q c e.0 h)) f
after_letters (x ∷ l) q c b s h e n =
    let z : suc (length l + 1) ≡ suc (length l) + 1 = omega arith in
    subst (FallsAt q (x ∷ l ++ c ∷ b ∷ s)) z
    (subst (λ (r : Noted). FallsAt r (l ++ c ∷ b ∷ s) (length l + 1)) (sym (noted_letter q x e.0 h)) (after_letters l (Last x) c b s refl e.1 n))

after_outside : (x : List ℕ) (q : Noted) (t : List ℕ) (j : ℕ) → FallsAt Opened t j → FallsAt q (x ++ 91 ∷ t) (length x + 1 + j)
unfolding FallsAt
after_outside [] q t j h = let z : suc j ≡ 0 + 1 + j = omega arith in subst (FallsAt q (91 ∷ t)) z h
after_outside (b ∷ x) q t j h =
    let z : suc (length x + 1 + j) ≡ suc (length x) + 1 + j = omega arith in
    subst (FallsAt q (b ∷ x ++ 91 ∷ t)) z (after_outside x (noted q b) t j h)

complete : (s : List ℕ) (i : ℕ) → Unordered s i → FallsAt Outside s i
complete s i u =
    let z : length u.before + 1 + (length u.letters + 1) ≡ i = omega (arith, u.place) in
    subst₂ (FallsAt Outside) (sym u.whole) z
    (after_outside u.before Outside (u.letters ++ u.last ∷ u.next ∷ u.rest) (length u.letters + 1)
    (after_letters u.letters Opened u.last u.next u.rest refl u.inside u.not_above))

-- no byte falls, from what was noted
abbrev pub Rising : Noted → List ℕ → Type 0
Rising q s = (i : ℕ) → FallsAt q s i → ⊥

pub rising_ordered : {s : List ℕ} → Rising Outside s → Ordered s
rising_ordered {s} h i u = h i (complete s i u)

pub ordered_rising : {s : List ℕ} → Ordered s → Rising Outside s
ordered_rising {s} o i b = o (0 + i) (sound s [] Outside i outside b)

-- ---- so it is found
pub unordered_first : (s : List ℕ) → unordered_at s < length s → FirstUnordered s (unordered_at s)
unordered_first s h =
    let f = found Outside s in
    let z : 0 + unordered_at s ≡ unordered_at s = omega arith in
    record {
      there = subst (Unordered s) z (sound s [] Outside (unordered_at s) outside (f.there h));
      first = λ j l u. f.before j l (complete s j u);
    }

-- it stands in the text
pub inside_text : (s : List ℕ) (i : ℕ) → Unordered s i → i < length s
inside_text s i u =
    let a = ap length u.whole in
    let b = length-append u.before (91 ∷ (u.letters ++ u.last ∷ u.next ∷ u.rest)) in
    let c = length-append u.letters (u.last ∷ u.next ∷ u.rest) in
    omega (arith, u.place)

pub ordered_all : (s : List ℕ) → length s ≤ unordered_at s → Ordered s
ordered_all s h i u = (found Outside s).before i (omega (arith, inside_text s i u)) (complete s i u)

-- and the first one is no other
pub first_is : {s : List ℕ} {n : ℕ} → FirstUnordered s n → unordered_at s ≡ n
first_is {s} {n} f = go (dec_lt (unordered_at s) n) (dec_lt n (unordered_at s))
  where
    go : Dec (unordered_at s < n) → Dec (n < unordered_at s) → unordered_at s ≡ n
    go (yes l) x = absurd (f.first (unordered_at s) l (unordered_first s (omega (arith, inside_text s n f.there))).there)
    go (no g) (yes l) = absurd ((found Outside s).before n l (complete s n f.there))
    go (no g) (no h) = omega arith

pub ordered_is : {s : List ℕ} → Ordered s → length s ≤ unordered_at s
ordered_is {s} o = go (dec_lt (unordered_at s) (length s))
  where
    go : Dec (unordered_at s < length s) → length s ≤ unordered_at s
    go (yes h) = absurd (o (unordered_at s) (unordered_first s h).there)
    go (no h) = omega arith

-- ---- a byte at the front: whether it falls, and what is noted of it
pub rises_on : (q : Noted) (b : ℕ) (s : List ℕ) → Rising q (b ∷ s) → Rising (noted q b) s
unfolding FallsAt
rises_on q b s h i x = h (suc i) x

pub rises_with : (q : Noted) (b : ℕ) (s u : List ℕ) → Rising q (b ∷ s) → Rising (noted q b) u → Rising q (b ∷ u)
unfolding FallsAt
rises_with q b s u h g zero x = h 0 x
rises_with q b s u h g (suc i) x = g i x

-- ---- one turn of the search
pub unordered_on : (s : List ℕ) (i : ℕ) (q : Noted) → i < length s → falls q (get_or s i 0) ≡ false
    → unordered_from q (drop i s) ≡ suc (unordered_from (noted q (get_or s i 0)) (drop (i + 1) s))
unfolding unordered_from
unordered_on s i q h e = ap (unordered_from q) (rest_at s i h) ∙ rw e

pub unordered_here : (s : List ℕ) (i : ℕ) (q : Noted) → i < length s → falls q (get_or s i 0) ≡ true → unordered_from q (drop i s) ≡ 0
unfolding unordered_from
unordered_here s i q h e = ap (unordered_from q) (rest_at s i h) ∙ rw e

pub unordered_end : (s : List ℕ) (i : ℕ) (q : Noted) → length s ≤ i → unordered_from q (drop i s) ≡ 0
unfolding unordered_from
unordered_end s i q h = ap (unordered_from q) (drop_of_length-le s h)
