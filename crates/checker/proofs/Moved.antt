-- The front of a list grows by what is moved behind it. Assumes nothing.
use Rattle.std.proofs.Common.{◌≡◌, ℕ, ◌+◌, ◌-◌, ◌≤◌, List, ◌++◌, length, take, drop, sym, ap, subst, ◌∙◌, length-take-le}
use Rattle.std.proofs.Math.Seq.{take-append-add, take-add, take-take}
use Rattle.std.proofs.lemmas.List.{take-append-le}

-- ys were put into xs from `start` on, which is where the first `done` end, and n of them count
pub read_behind : (start done n : ℕ) (xs ys rest : List ℕ) → start ≡ done → done ≤ length xs → n ≤ length ys
    → take done xs ++ take n ys ≡ take (done + n) (take start xs ++ (ys ++ rest))
read_behind start done n xs ys rest e h f =
    sym (ap (λ (k : ℕ). take (done + n) (take k xs ++ (ys ++ rest))) e
    ∙ subst (λ (k : ℕ). take (k + n) (take done xs ++ (ys ++ rest)) ≡ take done xs ++ take n ys) (length-take-le done xs h)
    (take-append-add (take done xs) (ys ++ rest) n ∙ ap (λ (l : List ℕ). take done xs ++ l) (take-append-le n ys rest f)))

-- n more of xs
pub written_behind : (done n : ℕ) (xs : List ℕ) → n ≤ length xs - done
    → take done xs ++ take n (take (length xs - done) (drop done xs)) ≡ take (done + n) xs
written_behind done n xs h =
    ap (λ (l : List ℕ). take done xs ++ l) (take-take n (length xs - done) (drop done xs) h) ∙ sym (take-add done n xs)
