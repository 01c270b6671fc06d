-- The grammar of rule texts. Assumes nothing.
use Rattle.std.specs.Prelude.{ℕ, ◌+◌, ◌≤◌, ◌<◌, List, [], ◌∷◌, ◌++◌, T, length, take}
use Rattle.event.specs.Event.{is_event, Events}
use Rattle.event.specs.LetterSets.{single, every, letters_of}
use Rattle.expression.specs.Tree.{Tree, empty, epsilon, letter, union, intersection, concatenation, complement, star}

-- 01: "From loosest to tightest: `|`, then `&`, then concatenation, then `!` in front, then `*` behind."
pub data Level : Type 0 where
  Alt Conj Seq Pre Post Atom : Level

-- `Reads l o u t`: the text u, whose first byte has the offset o, is read at the level l as the tree t.
-- 01: "The three that take two sides group from the left. Several `*` and several `!` may follow each other";
-- "parentheses are none" (no nodes); "concatenation has the offset at which its right side begins, an opening parenthesis included".
-- 02 f) refuses several `*` by 21 and not here: "number 4 is judged as before".
pub data Reads : Level → ℕ → List ℕ → Tree → Type 0 where
  -- Alt = Conj, Alt "|" Conj
  alt_conj : {o : ℕ} {u : List ℕ} {t : Tree} → Reads Conj o u t → Reads Alt o u t
  alt_bar : {o : ℕ} {u v : List ℕ} {t r : Tree} → Reads Alt o u t → Reads Conj (o + length u + 1) v r
      → Reads Alt o (u ++ 124 ∷ v) (union (o + length u) t r)
  -- Conj = Seq, Conj "&" Seq
  conj_seq : {o : ℕ} {u : List ℕ} {t : Tree} → Reads Seq o u t → Reads Conj o u t
  conj_amp : {o : ℕ} {u v : List ℕ} {t r : Tree} → Reads Conj o u t → Reads Seq (o + length u + 1) v r
      → Reads Conj o (u ++ 38 ∷ v) (intersection (o + length u) t r)
  -- Seq = Pre, Seq Pre
  seq_pre : {o : ℕ} {u : List ℕ} {t : Tree} → Reads Pre o u t → Reads Seq o u t
  seq_more : {o : ℕ} {u v : List ℕ} {t r : Tree} → Reads Seq o u t → Reads Pre (o + length u) v r
      → Reads Seq o (u ++ v) (concatenation (o + length u) t r)
  -- Pre = Post, "!" Pre
  pre_post : {o : ℕ} {u : List ℕ} {t : Tree} → Reads Post o u t → Reads Pre o u t
  pre_bang : {o : ℕ} {u : List ℕ} {t : Tree} → Reads Pre (o + 1) u t → Reads Pre o (33 ∷ u) (complement o t)
  -- Post = Atom, Post "*"
  post_atom : {o : ℕ} {u : List ℕ} {t : Tree} → Reads Atom o u t → Reads Post o u t
  post_star : {o : ℕ} {u : List ℕ} {t : Tree} → Reads Post o u t → Reads Post o (u ++ 42 ∷ []) (star (o + length u) t)
  -- Atom = a letter, ".", "[" letters "]", "0", "1", "(" Alt ")"
  atom_letter : {o b : ℕ} → T (is_event b) → Reads Atom o (b ∷ []) (letter o (single b))
  -- 02 e): "`.` one node for all 52"
  atom_any : {o : ℕ} → Reads Atom o (46 ∷ []) (letter o every)
  -- 02 e): "`[abc]` shall be one node that fits any of the letters inside, one letter at least"; "A set's offset is its first byte's."
  atom_set : {o : ℕ} (u : List ℕ) → 1 ≤ length u → Events u → Reads Atom o (91 ∷ u ++ 93 ∷ []) (letter o (letters_of u))
  atom_empty : {o : ℕ} → Reads Atom o (48 ∷ []) (empty o)
  atom_epsilon : {o : ℕ} → Reads Atom o (49 ∷ []) (epsilon o)
  atom_group : {o : ℕ} {u : List ℕ} {t : Tree} → Reads Alt (o + 1) u t → Reads Atom o (40 ∷ u ++ 41 ∷ []) t

-- 01: "A sentence is a text that can be formed this way; each has one reading" (`one_reading` in proofs/OneReading)
abbrev pub Sentence : List ℕ → Type 0
Sentence s = (t : Tree) × Reads Alt 0 s t

-- 01, number 4: "beginning that some sentence of any length also has"
abbrev pub Viable : List ℕ → Type 0
Viable p = (rest : List ℕ) × Sentence (p ++ rest)

-- 01, number 4: "place is the length of the longest beginning that some sentence of any length also has"
pub record Longest (s : List ℕ) (n : ℕ) : Type 0 where
  pub within : n ≤ length s
  pub viable : Viable (take n s)
  pub longest : (j : ℕ) → n < j → j ≤ length s → Viable (take j s) → ⊥
