-- `enter_specials` enters the special nodes that it comes to, one after another. Assumes nothing.
use Rattle.levels.proofs.SetLaws.{missing_less}
use Rattle.levels.proofs.Saturating.{saturating_start, saturating_done, saturating_turn, led_if, led_not}
use Rattle.levels.proofs.automaton.Automaton.enter_specials.Goals as goal

pub loop-s-init : goal.loop-s-init
loop-s-init c =
    saturating_start _ _ _ _ _ _ _ _ _ _
    record {
      reflexive = c.args.self.now.reflexive;
      transitive = c.args.self.now.transitive;
      even = c.args.self.now.special;
      room = c.requires.room;
      number = c.requires.number;
      begun = c.requires.begun;
    }

pub loop-s-smaller : goal.loop-s-smaller
loop-s-smaller c = missing_less c.in-Some.ensures c.put_in_two.ensures

pub loop-s-preserved : goal.loop-s-preserved
loop-s-preserved c =
    saturating_turn _ _ _ _ _ _ _ _ _ _ c.loop-s.invariant c.intersect.ensures c.in-Some.ensures
    c.put_in_two.ensures c.enter.ensures.node c.enter.ensures.here (led_not _ _ _ c.if-enter.false)

pub loop-s-smaller-then-enter : goal.loop-s-smaller-then-enter
loop-s-smaller-then-enter c = missing_less c.in-Some.ensures c.put_in_two.ensures

pub loop-s-preserved-then-enter : goal.loop-s-preserved-then-enter
loop-s-preserved-then-enter c =
    saturating_turn _ _ _ _ _ _ _ _ _ _ c.loop-s.invariant c.intersect.ensures c.in-Some.ensures
    c.put_in_two.ensures c.enter.ensures.node c.enter.ensures.here (led_if c.if-enter.true c.lead.ensures)

pub returns : goal.returns
returns c = saturating_done _ _ _ _ _ _ _ _ _ _ c.loop-s.invariant c.intersect.ensures c.in_default.ensures
