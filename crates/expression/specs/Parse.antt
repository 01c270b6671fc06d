-- The recursive reader as a function on lists, over whatever `push` makes of a node.
-- That it reads as the grammar does is `parse_whole` in proofs/Parses. Assumes nothing.
use Rattle.std.specs.Prelude.{ℕ, zero, suc, ◌+◌, ◌-◌, ◌*◌, List, cond, length, get_or, drop, ltb, eqb}
use Rattle.expression.specs.Bytes.{is_start}
use Rattle.expression.specs.Leaves.{leaf_at}
use Rattle.expression.specs.declared.Kind.{Kind}
use Rattle.expression.specs.declared.Kind.TheVariants.{Union, Intersection, Concatenation, Complement, Star}

-- a level of the reader: one for each level of the grammar, and one for each loop over what may follow there
pub data Call : Type 0 where
  alt alt_rest conj conj_rest seq seq_rest pre post post_rest atom : Call

-- a depth of recursion that suffices for a level on a text: eight for each byte, and a few by the level
abbrev pub rank : Call → ℕ
rank alt = 8
rank alt_rest = 1
rank conj = 7
rank conj_rest = 1
rank seq = 6
rank seq_rest = 5
rank pre = 4
rank post = 3
rank post_rest = 1
rank atom = 2

abbrev pub measure : Call → List ℕ → ℕ
measure l s = length s * 8 + rank l

module _ {A : Type 0} (push : A → ℕ → Kind → A) where
  -- one level, with the levels that it calls; a state is what is made so far, and the offset of the unread text
  abbrev pub body : (Call → List ℕ → A × ℕ → A × ℕ) → Call → List ℕ → A × ℕ → A × ℕ
  body rec alt s q = let p = rec conj s q in rec alt_rest (drop (p.1 - q.1) s) p
  body rec alt_rest s q =
      let p = rec conj (drop 1 s) (q.0, q.1 + 1) in
      let r = rec alt_rest (drop (p.1 - q.1) s) (push p.0 q.1 Union, p.1) in
      cond (eqb (get_or s 0 0) 124) r q
  body rec conj s q = let p = rec seq s q in rec conj_rest (drop (p.1 - q.1) s) p
  body rec conj_rest s q =
      let p = rec seq (drop 1 s) (q.0, q.1 + 1) in
      let r = rec conj_rest (drop (p.1 - q.1) s) (push p.0 q.1 Intersection, p.1) in
      cond (eqb (get_or s 0 0) 38) r q
  body rec seq s q = let p = rec pre s q in rec seq_rest (drop (p.1 - q.1) s) p
  body rec seq_rest s q =
      let p = rec pre s q in
      let r = rec seq_rest (drop (p.1 - q.1) s) (push p.0 q.1 Concatenation, p.1) in
      cond (is_start (get_or s 0 0)) r q
  body rec pre s q =
      let p = rec pre (drop 1 s) (q.0, q.1 + 1) in
      let r = rec post s q in
      let t : A × ℕ = (push p.0 q.1 Complement, p.1) in
      cond (eqb (get_or s 0 0) 33) t r
  body rec post s q = let p = rec atom s q in rec post_rest (drop (p.1 - q.1) s) p
  body rec post_rest s q =
      let r = rec post_rest (drop 1 s) (push q.0 q.1 Star, q.1 + 1) in
      cond (eqb (get_or s 0 0) 42) r q
  body rec atom s q =
      let p = rec alt (drop 1 s) (q.0, q.1 + 1) in
      let r = cond (ltb (p.1 - q.1) (length s)) (p.0, p.1 + 1) p in
      let t = cond (ltb 0 (length s)) (push q.0 q.1 (leaf_at s).kind, q.1 + (leaf_at s).width) q in
      cond (eqb (get_or s 0 0) 40) r t

  unfoldable pub parse : ℕ → Call → List ℕ → A × ℕ → A × ℕ
  parse zero l s q = q
  parse (suc f) l s q = body (parse f) l s q
