-- What an answer says of a rule file: document 02, requests b), e) and f). Assumes nothing.
-- That `file_answer` is the one answer which says so is `answer_means` and `answer_is` in proofs/FileAnswered.
use Rattle.std.specs.Prelude.{ℕ, ◌+◌, ◌≤◌, ◌<◌, ◌≡◌, false, List, [], ◌∷◌, ◌++◌, length, get_or}
use Rattle.expression.specs.Tree.{Tree, size, specials}
use Rattle.expression.specs.Unordered.{Unordered, Ordered}
use Rattle.expression.specs.Stars.{Double, NoDouble}
use Rattle.rule.specs.RuleMeaning.{FitsLength}
use Rattle.replacement.specs.Replaced.{Formed}
use Rattle.rule_line.specs.Lines.{Line}
use Rattle.rule_line.specs.LineMeaning.{Begins, HasName, is_written, LegalText, Uses, ReadsAs, AtRule}
use Rattle.rule_file.specs.FileAnswer.{FileAnswer, refusal, acceptance}

-- ---- the lines one after another
-- 02 b): "The file is taken line by line". The file's first lines are ls, all passed, each with those above it; the text follows them.
pub data Passed (file : List ℕ) : List Line → List ℕ → Type 0 where
  start : Passed file [] file
  next : {ls : List Line} {text n s more u : List ℕ} {t : Tree} → Passed file ls text → AtRule ls text n s more → ReadsAs ls s u t
      → Ordered s → NoDouble s → size t ≤ 64 → specials t ≤ 7 → Passed file (ls ++ record { name = n; text = u; tree = t } ∷ []) more

-- "the place of every refusal in it, later numbers too, is the line"
abbrev pub at : List Line → ℕ
at ls = length ls + 1

-- one constructor for each number: what holds of the file, and the whole answer
pub data FileMeaning (file : List ℕ) : FileAnswer → Type 0 where
  -- "19, a 17th line begun, before anything else about that line"
  many_lines : {ls : List Line} {text : List ℕ} → Passed file ls text → length ls ≡ 16 → 1 ≤ length text → FileMeaning file (refusal 19 (at ls))
  -- "16 covers a line of another form or an empty file, there with place 1"
  empty_file : length file ≡ 0 → FileMeaning file (refusal 16 1)
  other_form : {ls : List Line} {text : List ℕ} → Passed file ls text → length ls < 16 → 1 ≤ length text
      → ((n s more : List ℕ) → Begins text n s more → ⊥) → FileMeaning file (refusal 16 (at ls))
  -- "18, a line's name already taken, directly after 16"
  name_taken : {ls : List Line} {text n s more : List ℕ} → Passed file ls text → length ls < 16 → Begins text n s more → HasName ls n
      → FileMeaning file (refusal 18 (at ls))
  -- "1: empty."
  empty_text : {ls : List Line} {text n s more : List ℕ} → Passed file ls text → AtRule ls text n s more → length s ≡ 0
      → FileMeaning file (refusal 1 (at ls))
  -- "2: over 255 bytes"; 02 b): "the 255 bytes are those written"
  long_text : {ls : List Line} {text n s more : List ℕ} → Passed file ls text → AtRule ls text n s more → 255 < length s
      → FileMeaning file (refusal 2 (at ls))
  -- "3: a byte outside the list"
  foreign_byte : {ls : List Line} {text n s more : List ℕ} {i : ℕ} → Passed file ls text → AtRule ls text n s more → FitsLength s
      → i < length s → is_written (get_or s i 0) ≡ false → FileMeaning file (refusal 3 (at ls))
  -- "4: not a sentence", "a malformed `<..>` is number 4"
  no_sentence : {ls : List Line} {text n s more : List ℕ} → Passed file ls text → AtRule ls text n s more → LegalText s
      → (Formed s → ⊥) → FileMeaning file (refusal 4 (at ls))
  -- "17, a name that no earlier line has, directly after 4"
  unknown_name : {ls : List Line} {text n s more x : List ℕ} → Passed file ls text → AtRule ls text n s more → LegalText s
      → Formed s → Uses s x → (HasName ls x → ⊥) → FileMeaning file (refusal 17 (at ls))
  -- 02 e): "20, a letter inside brackets that is not above the one before it in byte order .. after 4 and 17"
  unordered_set : {ls : List Line} {text n s more u : List ℕ} {t : Tree} {i : ℕ} → Passed file ls text → AtRule ls text n s more → ReadsAs ls s u t
      → Unordered s i → FileMeaning file (refusal 20 (at ls))
  -- 02 f): "21, a star directly after a star, .. directly after 20": in the text as it is written
  double_star : {ls : List Line} {text n s more u : List ℕ} {t : Tree} (i : ℕ) → Passed file ls text → AtRule ls text n s more → ReadsAs ls s u t
      → Ordered s → Double s i → FileMeaning file (refusal 21 (at ls))
  -- "5: m over 64."
  many_nodes : {ls : List Line} {text n s more u : List ℕ} {t : Tree} → Passed file ls text → AtRule ls text n s more → ReadsAs ls s u t
      → Ordered s → NoDouble s → 64 < size t → FileMeaning file (refusal 5 (at ls))
  -- "6: k over 7"
  many_specials : {ls : List Line} {text n s more u : List ℕ} {t : Tree} → Passed file ls text → AtRule ls text n s more → ReadsAs ls s u t
      → Ordered s → NoDouble s → size t ≤ 64 → 7 < specials t → FileMeaning file (refusal 6 (at ls))
  -- accepted: "1 to 16 lines", and nothing after them
  accepted : {ls : List Line} → Passed file ls [] → 1 ≤ length ls → FileMeaning file (acceptance ls)
