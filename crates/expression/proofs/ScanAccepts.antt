-- The scan finds each sentence, and counts its nodes. Assumes nothing.
use Prim.Native.Nat.{ℕ, ◌+◌, ◌-◌, ◌≤◌}
use native.Mathlib.Omega.{arith}
use mathlib.Core.Path.{◌≡◌, refl, sym, ap, ap₂, ◌∙◌}
use mathlib.Core.List.{List, [], ◌∷◌, ◌++◌, append_assoc, append-nil}
use mathlib.Core.Bool.{true}
use lib.ListN.{length, get_or, length-append}
use lib.Dec.{T}
use borrow.Author.Tests.{ne_eqb}
use Rattle.event.specs.Event.{is_event, Events}
use Rattle.event.proofs.EventLaws.{event_not, reserved_foreign}
use Rattle.event.proofs.Tests.{of_T}
use Rattle.expression.specs.Bytes.{is_start}
use Rattle.expression.specs.Scan.{to, step_after, step_before, scan_from, scanned, after_step, ScanResult, counted}
use Rattle.expression.specs.declared.Size.{Size}
use Rattle.expression.specs.declared.Stage.{Stage}
use Rattle.expression.specs.declared.Stage.TheVariants.{Operand, Ended, Opened, Letters}
use Rattle.expression.specs.Tree.{Tree, size, specials}
use Rattle.expression.specs.Grammar.{Level, Alt, Reads, alt_conj, alt_bar, conj_seq, conj_amp, seq_pre, seq_more, pre_post, pre_bang, post_atom}
use Rattle.expression.specs.Grammar.{post_star, atom_letter, atom_any, atom_set, atom_empty, atom_epsilon, atom_group}
use Rattle.expression.proofs.Texts.{letter_leaf, begins, start_not, start_some}

-- one result has one pair of numbers
pub same_counts : {m k n c : ℕ} → ◌≡◌ {A = ScanResult} (counted m k) (counted n c) → (m ≡ n) × (k ≡ c)
same_counts {m} {k} {n} {c} e =
    let z : ◌≡◌ {A = Size} (record { m = m; k = k }) (record { m = n; k = c }) = cc in
    (ap (λ (z : Size). z.m) z, ap (λ (z : Size). z.k) z)

-- a scan from a state that is written out
abbrev pub from : List ℕ → ℕ → ℕ → Stage → ℕ → ℕ → ScanResult
from s i d a m k = scan_from s i (record { depth = d; stage = a; nodes = m; specials = k })

-- after an operand, a byte that begins another is read as where one is expected, with a concatenation more
step_join : (b d m k : ℕ) → is_start b ≡ true → step_after d m k b ≡ step_before d (m + 1) k b
step_join b d m k h =
    let e : m + 1 + 1 ≡ m + 2 = omega arith in
    simp (
      start_not b 42 h (reserved_foreign 42 tt),
      start_not b 124 h (reserved_foreign 124 tt),
      start_not b 38 h (reserved_foreign 38 tt),
      start_not b 41 h (reserved_foreign 41 tt),
      e,
    )

join : (s : List ℕ) (i d m k : ℕ) → is_start (get_or s 0 0) ≡ true → from s i d Ended m k ≡ from s i d Operand (m + 1) k
unfolding scan_from
join [] i d m k h = absurd (omega (arith, start_some [] h))
join (b ∷ s) i d m k h = ap (after_step (scan_from s) i) (step_join b d m k h)

meet : (s : List ℕ) (d : ℕ) (a : Stage) {i j m n k c : ℕ} → i ≡ j → m ≡ n → k ≡ c → from s i d a m k ≡ from s j d a n c
meet s d a p q r = cc

pub close_step : (s : List ℕ) (i d m k : ℕ) → from (41 ∷ s) i (d + 1) Ended m k ≡ from s (i + 1) d Ended m k
unfolding scan_from
close_step s i d m k =
    let e : d + 1 - 1 ≡ d = omega arith in
    rw (ne_eqb (d + 1) 0 (λ g. omega arith), e)

letter_move : (b d m k : ℕ) → T (is_event b) → step_before d m k b ≡ to d Ended (m + 1) k
letter_move b d m k h = simp (event_not b 33 h tt, event_not b 40 h tt, event_not b 91 h tt, letter_leaf b h)

letter_step : (s : List ℕ) (b i d m k : ℕ) → T (is_event b) → from (b ∷ s) i d Operand m k ≡ from s (i + 1) d Ended (m + 1) k
unfolding scan_from
letter_step s b i d m k h = ap (after_step (scan_from s) i) (letter_move b d m k h)

-- letters inside brackets, and the set that they make
inside_step : (s : List ℕ) (b i d m k : ℕ) → T (is_event b) → from (b ∷ s) i d Letters m k ≡ from s (i + 1) d Letters m k
unfolding scan_from
inside_step s b i d m k h = rw (event_not b 93 h tt, of_T (is_event b) h)

opened_step : (s : List ℕ) (b i d m k : ℕ) → T (is_event b) → from (b ∷ s) i d Opened m k ≡ from s (i + 1) d Letters m k
unfolding scan_from
opened_step s b i d m k h = rw (of_T (is_event b) h)

inside : (u x : List ℕ) (i d m k : ℕ) → Events u → from (u ++ 93 ∷ x) i d Letters m k ≡ from x (i + length u + 1) d Ended m k
unfolding scan_from
inside [] x i d m k h = meet x d Ended (omega arith) refl refl
inside (b ∷ u) x i d m k h =
    inside_step (u ++ 93 ∷ x) b i d m k h.0 ∙ inside u x (i + 1) d m k h.1 ∙ meet x d Ended (omega arith) refl refl

set_read : (u x : List ℕ) (i d m k : ℕ) → 1 ≤ length u → Events u → from (u ++ 93 ∷ x) i d Opened m k ≡ from x (i + length u + 1) d Ended m k
set_read [] x i d m k n h = absurd (omega arith)
set_read (b ∷ u) x i d m k n h =
    opened_step (u ++ 93 ∷ x) b i d m k h.0 ∙ inside u x (i + 1) d m k h.1 ∙ meet x d Ended (omega arith) refl refl

-- one operator between two sides: what the scan makes of both
between : (c : ℕ) (u v x : List ℕ) (i : ℕ) → i + length u + 1 + length v ≡ i + length (u ++ c ∷ v)
between c u v x i = omega (arith, length-append u (c ∷ v))

pub scan_reads : {l : Level} {o : ℕ} {u : List ℕ} {t : Tree} → Reads l o u t → (x : List ℕ) (i d m k : ℕ)
    → from (u ++ x) i d Operand m k ≡ from x (i + length u) d Ended (m + size t) (k + specials t)
unfolding scan_from
scan_reads (alt_conj r) x i d m k = scan_reads r x i d m k
scan_reads (alt_bar {u = u} {v = v} {t = t} r q) x i d m k =
    ap (λ (s : List ℕ). from s i d Operand m k) (append_assoc u (124 ∷ v) x)
    ∙ scan_reads r (124 ∷ v ++ x) i d m k
    ∙ scan_reads q x (i + length u + 1) d (m + size t + 1) (k + specials t)
    ∙ meet x d Ended (between 124 u v x i) (omega arith) (omega arith)
scan_reads (conj_seq r) x i d m k = scan_reads r x i d m k
scan_reads (conj_amp {u = u} {v = v} {t = t} r q) x i d m k =
    ap (λ (s : List ℕ). from s i d Operand m k) (append_assoc u (38 ∷ v) x)
    ∙ scan_reads r (38 ∷ v ++ x) i d m k
    ∙ scan_reads q x (i + length u + 1) d (m + size t + 1) (k + specials t + 1)
    ∙ meet x d Ended (between 38 u v x i) (omega arith) (omega arith)
scan_reads (seq_pre r) x i d m k = scan_reads r x i d m k
scan_reads (seq_more {u = u} {v = v} {t = t} r q) x i d m k =
    ap (λ (s : List ℕ). from s i d Operand m k) (append_assoc u v x)
    ∙ scan_reads r (v ++ x) i d m k
    ∙ join (v ++ x) (i + length u) d (m + size t) (k + specials t) (begins q x)
    ∙ scan_reads q x (i + length u) d (m + size t + 1) (k + specials t)
    ∙ meet x d Ended (omega (arith, length-append u v)) (omega arith) (omega arith)
scan_reads (pre_post r) x i d m k = scan_reads r x i d m k
scan_reads (pre_bang {u = u} r) x i d m k = scan_reads r x (i + 1) d (m + 1) (k + 1) ∙ meet x d Ended (omega arith) (omega arith) (omega arith)
scan_reads (post_atom r) x i d m k = scan_reads r x i d m k
scan_reads (post_star {u = u} r) x i d m k =
    ap (λ (s : List ℕ). from s i d Operand m k) (append_assoc u (42 ∷ []) x)
    ∙ scan_reads r (42 ∷ x) i d m k
    ∙ meet x d Ended (omega (arith, length-append u (42 ∷ []))) (omega arith) (omega arith)
scan_reads (atom_letter {b = b} h) x i d m k = letter_step x b i d m k h ∙ meet x d Ended (omega arith) (omega arith) (omega arith)
scan_reads atom_any x i d m k = meet x d Ended (omega arith) (omega arith) (omega arith)
scan_reads (atom_set u h e) x i d m k =
    ap (λ (s : List ℕ). from s (i + 1) d Opened (m + 1) k) (append_assoc u (93 ∷ []) x)
    ∙ set_read u x (i + 1) d (m + 1) k h e
    ∙ meet x d Ended (omega (arith, length-append u (93 ∷ []))) (omega arith) (omega arith)
scan_reads atom_empty x i d m k = meet x d Ended (omega arith) (omega arith) (omega arith)
scan_reads atom_epsilon x i d m k = meet x d Ended (omega arith) (omega arith) (omega arith)
scan_reads (atom_group {u = u} {t = t} r) x i d m k =
    ap (λ (s : List ℕ). from s (i + 1) (d + 1) Operand m k) (append_assoc u (41 ∷ []) x)
    ∙ scan_reads r (41 ∷ x) (i + 1) (d + 1) m k
    ∙ close_step x (i + 1 + length u) d (m + size t) (k + specials t)
    ∙ meet x d Ended (omega (arith, length-append u (41 ∷ []))) refl refl

-- each sentence is accepted, with its numbers of nodes and of special nodes
pub sentence_found : {s : List ℕ} {t : Tree} → Reads Alt 0 s t → scanned s ≡ counted (size t) (specials t)
unfolding scan_from
sentence_found {s} {t} r =
    ap (λ (u : List ℕ). scanned u) (sym (append-nil s))
    ∙ scan_reads r [] 0 0 0 0
    ∙ ap₂ counted (omega arith) (omega arith)
