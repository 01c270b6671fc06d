-- A row read, a row's spans added, and a block cleared. Assumes nothing.
use mathlib.Core.Path.{◌≡◌, refl, sym, ap, ◌∙◌}
use mathlib.Core.Bool.{true}
use mathlib.Core.Logic.{◌⊎◌, inl, inr, ⊎_elim}
use mathlib.Core.List.{List, ◌++◌}
use Prim.Native.Nat.{ℕ, zero, suc, ◌+◌, ◌-◌, ◌*◌, ◌/◌, ◌%◌, ◌≤◌, ◌<◌}
use native.Mathlib.Omega.{arith}
use lib.ListN.{length, get_or, take, drop, replicate, length-drop, length-replicate}
use lib.Seq.{length-take-le}
use borrow.Rule.Slice.PartMut.{mid_of, post_of, put_mid, put_same, same_len_mid}
use Rattle.bits.specs.Bit.{has_bit, bit_at}
use Rattle.bits.specs.Runs.{Merged, Adds}
use Rattle.bits.proofs.Laws.{merged_adds, adds_none, adds_then, adds_as, zeros_bit}
use Rattle.bits.proofs.Packed.{bit_front, bit_behind}
use Rattle.std.proofs.lemmas.Bool.{cases_lt}
use Rattle.work.specs.Table.{block_length}
use Rattle.table.specs.declared.Block.{Block}
use Rattle.table.specs.Layout.{span_bit, row_bit, Lies, RowSpan, Cleared}

-- a claim on the four numbers of a row
by_number : (P : ℕ → Type 0) → P 0 → P 1 → P 2 → P 3 → (h : ℕ) → h < 4 → P h
by_number P a b c d zero l = a
by_number P a b c d (suc zero) l = b
by_number P a b c d (suc (suc zero)) l = c
by_number P a b c d (suc (suc (suc zero))) l = d
by_number P a b c d (suc (suc (suc (suc h)))) l = absurd (omega arith)

-- bit k of a row, by its number
in_number : (a : List ℕ) (k : ℕ) → bit_at a k ≡ has_bit (k % 64) (get_or a (k / 64) 0)
unfolding bit_at
in_number a k = refl

pub read_law : (table row : List ℕ) (b : Block) (i at : ℕ) → at ≡ b.first + 4 * i → get_or row 0 0 ≡ get_or table at 0
    → get_or row 1 0 ≡ get_or table (at + 1) 0 → get_or row 2 0 ≡ get_or table (at + 2) 0 → get_or row 3 0 ≡ get_or table (at + 3) 0
    → (k : ℕ) → k < 256 → bit_at row k ≡ row_bit table b i k
unfolding row_bit span_bit
read_law table row b i at e p q r s k l =
    let z : at + 0 ≡ at = omega arith in
    let m : (64 * b.first + (256 * i + k)) % 64 ≡ k % 64 = omega arith in
    let d : (64 * b.first + (256 * i + k)) / 64 ≡ at + k / 64 = omega arith in
    in_number row k
    ∙ ap (has_bit (k % 64)) (by_number (λ (h : ℕ). get_or row h 0 ≡ get_or table (at + h) 0) (rw z p) q r s (k / 64) (omega arith))
    ∙ sym (in_number table (64 * b.first + (256 * i + k)) ∙ rw (m, d) refl)

-- ---- a row's spans added

-- bit q of the table is one of the row's first h numbers
pub record FromRow (row : List ℕ) (at h q : ℕ) : Type 0 where
  pub number : ℕ
  pub before : number < h
  pub place : q / 64 ≡ at + number
  pub there : has_bit (q % 64) (get_or row number 0) ≡ true

pub no_row : (a row : List ℕ) (at : ℕ) → Adds a (FromRow row at 0) a
no_row a row at = adds_none a (FromRow row at 0) (λ q u. let l = u.before in omega arith)

pub row_more : {a c d : List ℕ} (row : List ℕ) (at h : ℕ) → Adds a (FromRow row at h) c → Merged c (at + h) (get_or row h 0) d
    → Adds a (FromRow row at (h + 1)) d
row_more row at h f m =
    adds_as
    (λ q u.
    ⊎_elim (λ (x : FromRow row at h q). record { number = x.number; before = let l = x.before in omega arith; place = x.place; there = x.there })
    (λ (x : (q / 64 ≡ at + h) × (has_bit (q % 64) (get_or row h 0) ≡ true)).
    record { number = h; before = omega arith; place = x.0; there = x.1 })
    u)
    (λ q u. by_order q u (cases_lt u.number h))
    (adds_then f (merged_adds m))
  where
    by_order : (q : ℕ) (u : FromRow row at (h + 1) q) → (u.number < h) ⊎ (h ≤ u.number)
        → FromRow row at h q ⊎ ((q / 64 ≡ at + h) × (has_bit (q % 64) (get_or row h 0) ≡ true))
    by_order q u (inl l) = inl record { number = u.number; before = l; place = u.place; there = u.there }
    by_order q u (inr l) =
        let r = u.before in
        let e : u.number ≡ h = omega arith in inr (rw (← e) u.place, rw (← e) u.there)

module _ (row : List ℕ) (b : Block) (i at : ℕ) (e : at ≡ b.first + 4 * i) (short : b.n ≤ 255)
    (spans : (k : ℕ) → bit_at row k ≡ true → (i ≤ k) × (k ≤ b.n)) where
  to_span : (q : ℕ) → FromRow row at 4 q → RowSpan b i row q
  unfolding span_bit
  to_span q u =
      let h = u.number in
      let l = u.before in
      let n = u.place in
      let a : (64 * h + q % 64) % 64 ≡ q % 64 = omega arith in
      let d : (64 * h + q % 64) / 64 ≡ h = omega arith in
      let t : bit_at row (64 * h + q % 64) ≡ true = in_number row (64 * h + q % 64) ∙ rw (a, d) u.there in
      let s = spans (64 * h + q % 64) t in
      record { end = 64 * h + q % 64; order = s.0; inside = s.1; bit = omega arith; there = t }

  of_span : (q : ℕ) → RowSpan b i row q → FromRow row at 4 q
  unfolding span_bit
  of_span q u =
      let k = u.end in
      let l = u.inside in
      let p = u.bit in
      let m : q % 64 ≡ k % 64 = omega arith in
      record {
        number = k / 64;
        before = omega arith;
        place = omega arith;
        there = ap (λ (r : ℕ). has_bit r (get_or row (k / 64) 0)) m ∙ sym (in_number row k) ∙ u.there;
      }

  pub add_law : {c h : List ℕ} → Adds c (FromRow row at 4) h → Adds c (RowSpan b i row) h
  add_law f = adds_as to_span of_span f

-- ---- a block cleared

-- a run with its middle exchanged for another of that length
agree : (p x y r : List ℕ) → length x ≡ length y → (q : ℕ) → (q < 64 * length p) ⊎ (64 * (length p + length x) ≤ q)
    → bit_at (p ++ (x ++ r)) q ≡ bit_at (p ++ (y ++ r)) q
agree p x y r e q (inl h) = bit_front p (x ++ r) q h ∙ sym (bit_front p (y ++ r) q h)
agree p x y r e q (inr h) =
    behind x refl ∙ sym (behind y (sym e))
  where
    behind : (z : List ℕ) → length z ≡ length x → bit_at (p ++ (z ++ r)) q ≡ bit_at r (q - 64 * (length p + length x))
    behind z f =
        let d : q ≡ 64 * length p + (64 * length z + (q - 64 * (length p + length x))) = omega arith in
        ap (bit_at (p ++ (z ++ r))) d ∙ bit_behind p (z ++ r) (64 * length z + (q - 64 * (length p + length x)))
        ∙ bit_behind z r (q - 64 * (length p + length x))

pub clear_law : (a z : List ℕ) (b : Block) (k : ℕ) → Lies b (length a) → k ≡ block_length b.n → z ≡ replicate k 0
    → Cleared a b (put_mid b.first k a z)
clear_law a z b k lies e f =
    let w = lies.within in
    let m : length (mid_of b.first k a) ≡ k = length-take-le k (drop b.first a) (simp length-drop (omega arith)) in
    let t : length (take b.first a) ≡ b.first = length-take-le b.first a (omega arith) in
    let l : length z ≡ k = ap length f ∙ length-replicate k 0 in
    record {
      inside = λ q i.
          let d : q ≡ 64 * length (take b.first a) + (q - 64 * b.first) = let x = i.from in omega arith in
          let y = i.to in
          ap (bit_at (put_mid b.first k a z)) d ∙ bit_behind (take b.first a) (z ++ post_of b.first k a) (q - 64 * b.first)
          ∙ bit_front z (post_of b.first k a) (q - 64 * b.first) (omega arith)
          ∙ ap (λ (u : List ℕ). bit_at u (q - 64 * b.first)) f
          ∙ zeros_bit k (q - 64 * b.first);
      outside = λ q n.
          agree (take b.first a) z (mid_of b.first k a) (post_of b.first k a) (l ∙ sym m) q
          (⊎_elim (λ (h : q < 64 * b.first). inl (omega arith))
          (λ (h : 64 * b.first ≤ q).
          ⊎_elim (λ (g : q < 64 * (b.first + k)). absurd (n record { from = h; to = omega arith }))
          (λ (g : 64 * (b.first + k) ≤ q). inr (omega arith)) (cases_lt q (64 * (b.first + k))))
          (cases_lt q (64 * b.first)))
          ∙ ap (λ (u : List ℕ). bit_at u q) (put_same b.first k a);
      long = same_len_mid b.first k a z (l ∙ sym m);
    }
