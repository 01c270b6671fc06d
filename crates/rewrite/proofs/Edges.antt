-- The rewriter on small texts, by computation. Assumes nothing.
use Prim.Native.Nat.{ℕ}
use Prim.Native.String.{String}
use mathlib.Core.Path.{◌≡◌, refl}
use mathlib.Core.List.{List, [], ◌∷◌, ◌++◌, map}
use lib.ListN.{replicate}
use Rattle.event.specs.Event.{is_event}
use Rattle.event.specs.Leading.{leading}
use Rattle.event.specs.LetterSets.{holds, bit_of}
use Rattle.event.specs.Text.{bytes}
use Rattle.bits.specs.Bit.{has_bit}
use Rattle.expression.specs.Accept.{accepts}
use Rattle.expression.specs.Leaves.{leaf_at}
use Rattle.expression.specs.Parse.{parse}
use Rattle.expression.specs.TreeOf.{tree_of}
use Rattle.work.specs.Count.{full_count}
use Rattle.expression.specs.OrderComputed.{unordered_from}
use Rattle.expression.specs.Scan.{scan_from}
use Rattle.rule.specs.RuleComputed.{sentence_outcome}
use Rattle.rewrite.specs.Rewritten.{squeezed_after}
use Rattle.rewrite.specs.RewriteComputed.{rewrite_answer}

-- a text and a buffer, with number, place, n and the buffer after it
abbrev Case : Type 0
Case = List ℕ × List ℕ × ℕ × ℕ × ℕ × List ℕ

cases : List Case
cases =
    -- what lies beyond n stays; a buffer of just n; one byte less
    (bytes "a***", bytes "wxyz", 0, 0, 2, bytes "a*yz") ∷ (bytes "a**", bytes "xy", 0, 0, 2, bytes "a*") ∷ (bytes "a**", bytes "x", 15, 0, 0, bytes "x")
    -- one star each stays, and so does all that is no star
    ∷ (bytes "(a*)*", bytes "vwxyz", 0, 0, 5, bytes "(a*)*") ∷ (bytes "!!a*|b***", bytes "rstuvwxyz", 0, 0, 7, bytes "!!a*|b*yz")
    ∷ (bytes "[ab]**.*", bytes "stuvwxyz", 0, 0, 7, bytes "[ab]*.*z")
    -- 4 as before, and before 15; 20; 5 on the text as given; 6; 1; 3
    ∷ (bytes "a**|", [], 4, 4, 0, []) ∷ (bytes "**", bytes "xy", 4, 0, 0, bytes "xy") ∷ (bytes "a**[ba]", bytes "xy", 20, 5, 0, bytes "xy")
    ∷ (bytes "a" ++ replicate 64 42, bytes "xy", 5, 0, 0, bytes "xy") ∷ (bytes "a" ++ replicate 63 42, bytes "xy", 0, 0, 2, bytes "a*")
    ∷ (bytes "!!!!!!!!a**", bytes "xy", 6, 0, 0, bytes "xy") ∷ ([], bytes "xy", 1, 0, 0, bytes "xy") ∷ (bytes "a**-", bytes "xy", 3, 3, 0, bytes "xy") ∷ []

worked : Case → Case
worked c = let a = rewrite_answer c.0 c.1 in (c.0, c.1, a.number, a.place, a.n, a.out)

edges : map worked cases ≡ cases
unfolding rewrite_answer sentence_outcome leading is_event scan_from unordered_from squeezed_after cases worked
edges = refl

-- "Its count may be lower": `a**` on the word aa, and its rewritten text
lower_count : map (λ (s : String). full_count (bytes "aa") (tree_of (bytes s))) ("a**" ∷ "a*" ∷ []) ≡ 30 ∷ 18 ∷ []
unfolding full_count accepts holds has_bit bit_of tree_of parse leaf_at is_event
lower_count = refl
