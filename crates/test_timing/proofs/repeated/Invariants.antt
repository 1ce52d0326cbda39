use Rattle.test_timing.proofs.repeated.Given as goal

abbrev pub invariant-loop : goal.invariant-loop
invariant-loop g l = goal.F-post g l.call l.answer
