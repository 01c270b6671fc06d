-- What the answer says of a rule that was read, a word, a limit and the table at entry, by the language and the collection of reached
-- places: document 01's row "Judge". Assumes nothing.
-- That `match_answer` is the one answer which says so, of a rule whose special nodes stand at rising byte offsets as those of a text do, is
-- `answer_means` in proofs/Answered and `answer_is` in proofs/Determined.
use Rattle.std.specs.Prelude.{ℕ, ◌*◌, ◌^◌, ◌≤◌, ◌<◌, ◌≡◌, ◌↔◌, true, false, length, get_or, take}
use mathlib.Core.List.{List, ◌∷◌, Memᴰ}
use Rattle.bits.specs.Bit.{ones_of}
use Rattle.event.specs.Event.{Word, is_event}
use Rattle.expression.specs.Tree.{Tree, specials}
use Rattle.work.specs.SizeOf.{SizeOf}
use Rattle.work.specs.Table.{HoldsBlock, SpecialPart, Rising, block_length, need_of}
use Rattle.work.specs.Walk.{Collection}
use Rattle.matcher.specs.MatchAnswer.{MatchAnswer, refusal, values}

-- every byte of the word before the n-th is an event
abbrev pub EventsBefore : Word → ℕ → Type 0
EventsBefore w n = (i : ℕ) → i < n → is_event (get_or w i 0) ≡ true

-- 01: "A word is 0 to 255 events"
pub record LegalWord (w : Word) : Type 0 where
  pub fits : length w ≤ 255
  pub events : EventsBefore w (length w)

-- 01: "those beyond are never touched": past its first `need` numbers the run b is the run a
pub record KeepsBeyond (need : ℕ) (a b : List ℕ) : Type 0 where
  pub long : length b ≡ length a
  pub beyond : (i : ℕ) → need ≤ i → get_or b i 0 ≡ get_or a i 0

-- 01: "The first block is for the whole rule. Then follows one block for each special node, in rising byte offset: the part of the rule
-- that the node heads, itself included."
pub record HoldsTable (w : Word) (t : Tree) (b : List ℕ) : Type 0 where
  pub parts : List Tree
  pub special : (u : Tree) → Memᴰ u parts ↔ SpecialPart t 0 u
  pub each : length parts ≡ specials t  -- "one block for each special node"
  pub rising : Rising 0 parts
  pub blocks : (i : ℕ) → i ≤ specials t → HoldsBlock w (get_or (t ∷ parts) i t) b (i * block_length (length w))
  pub numbers : (i : ℕ) → i < need_of (specials t) (length w) → get_or b i 0 < 2 ^ 64  -- "64-bit numbers"

-- one constructor for each number: what holds at entry, and the whole answer
pub data MatchMeaning (t : Tree) (w : Word) (limit : ℕ) (old : List ℕ) : MatchAnswer → Type 0 where
  -- "7: word over 255." "On every refusal but 10 .. no lent buffer changes"
  long_word : 255 < length w → MatchMeaning t w limit old (refusal 7 0 old)
  -- "8: a byte outside a to z; place is the first one's offset."; 02 a): it reads "the wider alphabet"
  foreign_event : {n : ℕ} → length w ≤ 255 → n < length w → EventsBefore w n → is_event (get_or w n 0) ≡ false
      → MatchMeaning t w limit old (refusal 8 n old)
  -- "9: table too short."
  short_table : LegalWord w → length old < need_of (specials t) (length w) → MatchMeaning t w limit old (refusal 9 0 old)
  -- "10: the count is above the limit": the size of the collection is; every size is, since there is one (`size_unique` in work).
  -- "On 10 the needed numbers of the table are all 0 and the reported count is the limit."
  limit_spent : {c : ℕ} {b : List ℕ} → LegalWord w → need_of (specials t) (length w) ≤ length old
      → SizeOf (Collection w t) c → limit < c
      → ((i : ℕ) → i < need_of (specials t) (length w) → get_or b i 0 ≡ 0) → KeepsBeyond (need_of (specials t) (length w)) old b
      → MatchMeaning t w limit old (values 10 0 0 limit b)
  -- accepted: the count is the size of the collection; the table holds the blocks of t; found is "the number of ones in the first block"
  accepted : {c : ℕ} {b : List ℕ} → LegalWord w → need_of (specials t) (length w) ≤ length old
      → SizeOf (Collection w t) c → c ≤ limit
      → HoldsTable w t b → KeepsBeyond (need_of (specials t) (length w)) old b
      → MatchMeaning t w limit old (values 0 0 (ones_of (take (block_length (length w)) b)) c b)
