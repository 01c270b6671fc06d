-- A walk of an automaton over a word. A place is a number p: state p % 128 where p / 128 events are used. Assumes nothing.
use Rattle.std.specs.Prelude.{ℕ, ◌+◌, ◌*◌, ◌/◌, ◌%◌, ◌≤◌, ◌<◌, ◌≡◌, ◌⊎◌, List, true, length, get_or}
use Rattle.bits.specs.Bit.{bit_at}
use Rattle.table.specs.Layout.{block_at, span_bit}
use Rattle.levels.specs.declared.automaton.Automaton.{Automaton}
use Rattle.levels.specs.Exits.{Room}

-- what a walk goes by, as bits but for the numbers of firsts and of word: the closed free moves (128 * s + t for those from s to t),
-- the entries of each letter's nodes (128 * c + s) and of the special nodes, the first number of each special node's block in the table,
-- the word, and the table
pub record Course : Type 0 where
  pub closed : List ℕ
  pub letters : List ℕ
  pub specials : List ℕ
  pub firsts : List ℕ
  pub word : List ℕ
  pub table : List ℕ

-- an automaton with a word and a table
abbrev pub course_of : Automaton → (word table : List ℕ) → Course
course_of a w t =
    record { closed = a.closed; letters = a.letters; specials = a.specials; firsts = a.firsts; word = w; table = t }

-- ---- steps

-- free moves, which use no event
pub record FreeStep (closed : List ℕ) (p q : ℕ) : Type 0 where
  pub number : q / 128 ≡ p / 128
  pub move : bit_at closed (128 * (p % 128) + q % 128) ≡ true

-- from a letter's entry to its exit, which uses the next event
pub record LetterStep (letters word : List ℕ) (p q : ℕ) : Type 0 where
  pub exit : q ≡ p + 129
  pub within : p / 128 < length word
  pub event : bit_at letters (128 * get_or word (p / 128) 0 + p % 128) ≡ true

-- from a special node's entry to its exit, which uses the events of a span of its block
pub record SpanStep (specials firsts table : List ℕ) (n p q : ℕ) : Type 0 where
  pub exit : q % 128 ≡ p % 128 + 1
  pub from : p / 128 ≤ q / 128
  pub to : q / 128 ≤ n
  pub special : bit_at specials (p % 128) ≡ true
  pub span : bit_at table (span_bit (block_at (get_or firsts (p % 128 / 2) 0) n) (p / 128) (q / 128)) ≡ true

-- one step of a walk
abbrev pub Step : Course → (p q : ℕ) → Type 0
Step t p q =
    FreeStep t.closed p q ⊎ (LetterStep t.letters t.word p q ⊎ SpanStep t.specials t.firsts t.table (length t.word) p q)

-- ---- what a walk needs

-- the word is short, and the table has the block of each special node
abbrev pub HasRoom : (a : Automaton) (word table : List ℕ) → Type 0
HasRoom a w t = (length w ≤ 255) × Room a.firsts (length w) (length t)
