-- No answer but `match_answer` means what `MatchMeaning` asks. Assumes nothing.
use Prim.Native.Nat.{ℕ, ◌*◌, ◌≤◌, ◌<◌}
use native.Mathlib.Omega.{arith}
use mathlib.Core.Path.{◌≡◌, sym, ap, ap₂, subst, ◌∙◌}
use mathlib.Core.Logic.{⊎_elim}
use mathlib.Core.List.{List, ◌∷◌, ◌++◌}
use lib.ListN.{length, get_or, take, drop, replicate, length-replicate, get_or-replicate, get_or-append}
use lib.Seq.{ext_get_or}
use Rattle.bits.specs.Bit.{ones_of}
use Rattle.bits.proofs.Digits.{below_or_not}
use Rattle.event.specs.Event.{Word, is_event}
use Rattle.event.proofs.LeadingLaws.{leading_is}
use Rattle.expression.specs.Tree.{Tree, specials}
use Rattle.work.specs.Count.{full_count}
use Rattle.work.specs.Walk.{Collection}
use Rattle.work.specs.Table.{need_of, block_length, HoldsBlock, Rising}
use Rattle.work.specs.TableComputed.{special_parts, table}
use Rattle.work.proofs.Order.{listed_special, special_listed, rising_one}
use Rattle.work.proofs.Sizes.{size_unique}
use Rattle.work.proofs.TableLaws.{table_length}
use Rattle.work.proofs.TableOnly.{table_numbers}
use Rattle.work.proofs.WorkSize.{collection_size}
use Rattle.matcher.specs.MatchAnswer.{MatchAnswer, values, refusal}
use Rattle.matcher.specs.MatchComputed.{limited, match_answer}
use Rattle.verdict.specs.Verdicts as verdict
use Rattle.matcher.specs.MatchMeaning.{LegalWord, KeepsBeyond, HoldsTable, MatchMeaning}
use Rattle.matcher.specs.MatchMeaning.{long_word, foreign_event, short_table, limit_spent, accepted}
use Rattle.matcher.proofs.Answered.{keeps_beyond}
use Rattle.matcher.proofs.Limited.{found_counted}
use Rattle.matcher.proofs.Words.{foreign_none}
use Rattle.matcher.proofs.Tested.{at_length, at_foreign, at_table, at_fit, after_fit_lem, at_spent, at_acceptance}

-- ---- the table
-- a table is what stands in front, and what was kept beyond
split : {need : ℕ} {old b : List ℕ} (a : List ℕ) → KeepsBeyond need old b → length a ≡ need → need ≤ length old
    → ((i : ℕ) → i < need → get_or b i 0 ≡ get_or a i 0) → b ≡ a ++ drop need old
split {need} {old} {b} a k e room h =
    let f = keeps_beyond a old e room in
    ext_get_or 0 b (a ++ drop need old) (k.long ∙ sym f.long) (λ i l.
    ⊎_elim (λ (z : i < need). h i z ∙ sym (get_or-append a (drop need old) 0 i (omega arith)))
    (λ (z : need ≤ i). k.beyond i z ∙ sym (f.beyond i z)) (below_or_not i need))

-- the parts of a table are the special parts
held_parts : {w : Word} {t : Tree} {b : List ℕ} → Rising 0 (special_parts t) → (h : HoldsTable w t b) → h.parts ≡ special_parts t
held_parts {t = t} up h =
    rising_one 0 0 h.parts (special_parts t) h.rising up
    (λ u m. let z = (h.special u).0 m in special_listed z.1 z.2) (λ u m. (h.special u).1 (listed_special t u 0 m))

held_table : {w : Word} {t : Tree} {old b : List ℕ} → Rising 0 (special_parts t) → length w ≤ 255 → need_of (specials t) (length w) ≤ length old
    → HoldsTable w t b → KeepsBeyond (need_of (specials t) (length w)) old b → b ≡ table w t ++ drop (need_of (specials t) (length w)) old
held_table {w = w} {t = t} {b = b} up short room h k =
    split (table w t) k (table_length w t) room (λ i l.
    table_numbers w b short t t
    (λ n z. subst (λ (u : List Tree). HoldsBlock w (get_or (t ∷ u) n t) b (n * block_length (length w))) (held_parts up h) (h.blocks n z)) i l
    (h.numbers i l))

-- ---- the answer
pub to_limit : (t : Tree) (w : Word) (limit : ℕ) (old : List ℕ) → LegalWord w → need_of (specials t) (length w) ≤ length old
    → limited t w limit old ≡ match_answer t w limit old
to_limit t w limit old l room =
    after_fit_lem t w limit old (verdict.accepted 0 0) (sym (at_fit (specials t) w old l.fits (foreign_none w l.events) room))

pub answer_is : {t : Tree} {w : Word} {limit : ℕ} {old : List ℕ} {a : MatchAnswer} → Rising 0 (special_parts t) → MatchMeaning t w limit old a
    → a ≡ match_answer t w limit old
answer_is {t} {w} {limit} {old} up (long_word h) = after_fit_lem t w limit old (verdict.refused 7 0) (sym (at_length (specials t) w old h))
answer_is {t} {w} {limit} {old} up (foreign_event {n = n} f h b e) =
    let g = leading_is is_event w n (record { within = omega arith; before = b; there = λ l. e }) in
    ap (λ (x : ℕ). refusal 8 x old) (sym g)
    ∙ after_fit_lem t w limit old (verdict.refused 8 _) (sym (at_foreign (specials t) w old f (omega arith)))
answer_is {t} {w} {limit} {old} up (short_table l h) =
    after_fit_lem t w limit old (verdict.refused 9 0) (sym (at_table (specials t) w old l.fits (foreign_none w l.events) h))
answer_is {t} {w} {limit} {old} up (limit_spent {c = c} {b = b} l room y h z k) =
    let n = need_of (specials t) (length w) in
    let e = split (replicate n 0) k (length-replicate n 0) room (λ i m. z i m ∙ sym (get_or-replicate n i 0 0 m)) in
    let f = size_unique (Collection w t) c (full_count w t) y (collection_size w t) in
    ap (λ (x : List ℕ). values 10 0 0 limit x) e ∙ sym (at_spent t w limit old (omega arith)) ∙ to_limit t w limit old l room
answer_is {t} {w} {limit} {old} up (accepted {c = c} {b = b} l room z h g k) =
    let e = size_unique (Collection w t) c (full_count w t) z (collection_size w t) in
    let f = held_table up l.fits room g k in
    let o = block_length (length w) in
    let r = drop (need_of (specials t) (length w)) old in
    ap (λ (x : List ℕ). values 0 0 (ones_of (take o x)) c x) f
    ∙ ap₂ (λ (n m : ℕ). values 0 0 n m (table w t ++ r)) (found_counted w t r) e
    ∙ sym (at_acceptance t w limit old (omega arith)) ∙ to_limit t w limit old l room
