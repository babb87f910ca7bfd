use Rattle.ode_questions.proofs.comparisons.verdict_in.Goals as goal

pub verdict_on-requires-clause-first : goal.verdict_on-requires-clause-first
verdict_on-requires-clause-first c =
    (c.numbers_of_comparisons_are_in_range.ensures.checked c.args.classes.now c.args.c.now.class c.args.c.now.params c.args.c.now.first c.args.c.now.second c.in_ok-first.first c.in_ok-first.second c.in_ok-first.ensures c.requires.0 c.requires.1).0

pub verdict_on-requires-clause-second : goal.verdict_on-requires-clause-second
verdict_on-requires-clause-second c =
    (c.numbers_of_comparisons_are_in_range.ensures.checked c.args.classes.now c.args.c.now.class c.args.c.now.params c.args.c.now.first c.args.c.now.second c.in_ok-first.first c.in_ok-first.second c.in_ok-first.ensures c.requires.0 c.requires.1).1
