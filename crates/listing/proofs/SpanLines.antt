-- Laws of the lines of a block: up to the next end of a row that passes, one line, one row behind another, how long they are.
-- Assumes nothing.
use Prim.Native.Nat.{ℕ, zero, suc, ◌+◌, ◌-◌, ◌*◌, ◌≤◌, ◌<◌}
use native.Mathlib.Omega.{arith}
use mathlib.Core.Path.{◌≡◌, refl, sym, ap, ap₂, ◌∙◌}
use mathlib.Core.Logic.{◌⊎◌, inl, inr, ⊎_elim}
use mathlib.Core.Bool.{Bool, true, false}
use mathlib.Core.List.{List, [], ◌∷◌, ◌++◌, append_assoc}
use lib.ListN.{length, length-append}
use Rattle.bits.specs.Bit.{bit_at}
use Rattle.bits.proofs.Digits.{below_or_not}
use Rattle.work.specs.Spans.{Spans}
use Rattle.work.specs.SpansComputed.{list_if}
use Rattle.table.specs.Layout.{block_at, row_bit}
use Rattle.table.proofs.LayoutLaws.{row_span}
use Rattle.listing.specs.declared.Heading.{Heading}
use Rattle.listing.specs.Lines.{head_line, span_line, span_lines}
use Rattle.listing.specs.Marked.{ends, starts, is_marked, listing, row_lines, block_lines, Next}
use Rattle.listing.proofs.WrittenLaws.{line_short}

-- ---- a row
module _ (f : ℕ → Bool) (i n : ℕ) where
  -- the first of the ends that are left
  first_end : (j : ℕ) → j ≤ n → row_lines f i n j ≡ span_lines (list_if (f j) i j (ends f i (suc n - suc j) (suc j)))
  unfolding ends
  first_end j h = let e : suc n - j ≡ suc (suc n - suc j) = omega arith in rw e refl

  row_over : (j : ℕ) → n < j → row_lines f i n j ≡ []
  unfolding ends span_lines
  row_over j h = let e : suc n - j ≡ 0 = omega arith in rw e refl

  -- one that passes
  row_here : (j : ℕ) → j ≤ n → f j ≡ true → row_lines f i n j ≡ span_line i j ++ row_lines f i n (j + 1)
  unfolding span_lines
  row_here j h t =
      let e : suc j ≡ j + 1 = omega arith in
      first_end j h ∙ rw t refl ∙ ap (λ (k : ℕ). span_line i j ++ row_lines f i n k) e

  skip : (d j r : ℕ) → r ≡ j + d → ((k : ℕ) → j ≤ k → k < r → f k ≡ false) → row_lines f i n j ≡ row_lines f i n r
  skip zero j r e h = let z : j ≡ r = omega arith in ap (row_lines f i n) z
  skip (suc d) j r e h = go (below_or_not n j) (skip d (suc j) r (omega arith) (λ k l m. h k (omega arith) m))
    where
      go : (n < j) ⊎ (j ≤ n) → row_lines f i n (suc j) ≡ row_lines f i n r → row_lines f i n j ≡ row_lines f i n r
      go (inl l) s = row_over j l ∙ sym (row_over r (omega arith))
      go (inr l) s = let z : f j ≡ false = h j (omega arith) (omega arith) in first_end j l ∙ rw z s

  -- the lines from j on: that of the next end, and those behind it
  pub row_next : {j r : ℕ} → Next f j n r → row_lines f i n j ≡ span_line i r ++ row_lines f i n (r + 1)
  row_next {j} {r} x = skip (r - j) j r (omega (arith, x.from)) x.none ∙ row_here r x.within x.there

  pub row_added : {j r : ℕ} → Next f j n r
      → length (row_lines f i n j) ≡ length (span_line i r) + length (row_lines f i n (r + 1))
  row_added {r = r} x = ap length (row_next x) ∙ length-append (span_line i r) (row_lines f i n (r + 1))

  -- where no end is left
  pub row_end : (j : ℕ) → ((k : ℕ) → j ≤ k → k ≤ n → f k ≡ false) → row_lines f i n j ≡ []
  row_end j none =
      ⊎_elim (row_over j) (λ h. skip (suc n - j) j (suc n) (omega arith) (λ k l m. none k l (omega arith)) ∙ row_over (suc n) (omega arith)) (below_or_not n j)

-- ---- a block
lines_append : (l m : Spans) → span_lines (l ++ m) ≡ span_lines l ++ span_lines m
unfolding span_lines
lines_append [] m = refl
lines_append (p ∷ l) m =
    ap (span_line p.0 p.1 ++◌) (lines_append l m) ∙ sym (append_assoc (span_line p.0 p.1) (span_lines l) (span_lines m))

module _ (f : ℕ → ℕ → Bool) (n : ℕ) where
  pub block_over : (i : ℕ) → n < i → block_lines f n i ≡ []
  unfolding starts span_lines
  block_over i h = let e : suc n - i ≡ 0 = omega arith in rw e refl

  block_here : (i : ℕ) → i ≤ n → block_lines f n i ≡ row_lines (f i) i n i ++ block_lines f n (i + 1)
  unfolding starts
  block_here i h =
      let e : suc n - i ≡ suc (suc n - suc i) = omega arith in
      let k : suc i ≡ i + 1 = omega arith in
      ap (λ (d : ℕ). span_lines (starts f d i)) e
      ∙ lines_append (ends (f i) i (suc (suc n - suc i)) i) (starts f (suc n - suc i) (suc i))
      ∙ ap₂ (λ (d r : ℕ). span_lines (ends (f i) i d i) ++ block_lines f n r) (sym e) k

-- ---- two tests that agree from j on
ends_same : (f g : ℕ → Bool) (i d j : ℕ) → ((k : ℕ) → j ≤ k → k < j + d → f k ≡ g k) → ends f i d j ≡ ends g i d j
unfolding ends
ends_same f g i zero j h = refl
ends_same f g i (suc d) j h =
    ap₂ (λ (b : Bool) (l : Spans). list_if b i j l) (h j (omega arith) (omega arith))
    (ends_same f g i d (suc j) (λ k l m. h k (omega arith) (omega arith)))

-- the rows that are left of a block, of which one is read
module _ (a row : List ℕ) (n i : ℕ) (short : n ≤ 255) (inside : i ≤ n)
    (read : (k : ℕ) → k < 256 → bit_at row k ≡ row_bit a (block_at 0 n) i k) where
  pub block_row : block_lines (is_marked n a) n i ≡ row_lines (bit_at row) i n i ++ block_lines (is_marked n a) n (i + 1)
  block_row =
      block_here (is_marked n a) n i inside
      ∙ ap (λ (l : Spans). span_lines l ++ block_lines (is_marked n a) n (i + 1))
      (ends_same (is_marked n a i) (bit_at row) i (suc n - i) i
      (λ k l m. sym (read k (omega arith) ∙ row_span a (block_at 0 n) i k l (omega arith))))

  pub block_length_lem : length (block_lines (is_marked n a) n i) ≡ length (row_lines (bit_at row) i n i) + length (block_lines (is_marked n a) n (i + 1))
  block_length_lem = ap length block_row ∙ length-append (row_lines (bit_at row) i n i) (block_lines (is_marked n a) n (i + 1))

-- ---- how long they are
ends_few : (f : ℕ → Bool) (i d j : ℕ) → length (ends f i d j) ≤ d
unfolding ends
ends_few f i zero j = omega arith
ends_few f i (suc d) j = go (f j) (ends_few f i d (suc j))
  where
    go : (b : Bool) → length (ends f i d (suc j)) ≤ d → length (list_if b i j (ends f i d (suc j))) ≤ suc d
    go true h = omega arith
    go false h = omega arith

starts_few : (f : ℕ → ℕ → Bool) (d i : ℕ) → d ≤ 256 → length (starts f d i) ≤ 256 * d
unfolding starts
starts_few f zero i h = omega arith
starts_few f (suc d) i h =
    let e = length-append (ends (f i) i (suc d) i) (starts f d (suc i)) in
    omega (arith, ends_few (f i) i (suc d) i, starts_few f d (suc i) (omega arith))

lines_few : (l : Spans) → length (span_lines l) ≤ 44 * length l
unfolding span_lines
lines_few [] = omega arith
lines_few (p ∷ l) = omega (arith, length-append (span_line p.0 p.1) (span_lines l), line_short 83 p.0 p.1, lines_few l)

pub row_most : (f : ℕ → Bool) (i n : ℕ) → n ≤ 255 → length (row_lines f i n i) ≤ 44 * 256
row_most f i n h = omega (arith, lines_few (ends f i (suc n - i) i), ends_few f i (suc n - i) i)

pub block_most : (f : ℕ → ℕ → Bool) (n : ℕ) → n ≤ 255 → length (block_lines f n 0) ≤ 44 * 65536
block_most f n h = omega (arith, lines_few (starts f (suc n - 0) 0), starts_few f (suc n - 0) 0 (omega arith))

-- ---- the listing: its heading, and then all lines
pub listing_is : (h : Heading) (a : List ℕ) → listing h a ≡ head_line h ++ block_lines (is_marked h.n a) h.n 0
unfolding listing
listing_is h a =
    let e : suc h.n ≡ suc h.n - 0 = omega arith in
    ap (λ (d : ℕ). head_line h ++ span_lines (starts (is_marked h.n a) d 0)) e

pub listing_length : (h : Heading) (a : List ℕ) → length (listing h a) ≡ length (head_line h) + length (block_lines (is_marked h.n a) h.n 0)
listing_length h a = ap length (listing_is h a) ∙ length-append (head_line h) (block_lines (is_marked h.n a) h.n 0)
