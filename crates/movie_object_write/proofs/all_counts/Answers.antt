-- What `all` tells of every count (`counts_judged`). Assumes nothing.
use Rattle.std.proofs.Common.{◌≤◌, ◌<◌, rules}
use Rattle.std.proofs.lemmas.Iterator.{cases_from_all, YieldsList-from_slice}
use borrow.Author.Tests.{tests}
use Rattle.movie_object_write.specs.Laws.{counts_judged}
use Rattle.movie_object_write.proofs.all_counts.Goals as goal

pub returns : goal.returns
returns c =
    counts_judged _ _
    (cases_from_all _ _ _ (λ x. x < 65536) (λ x. 65536 ≤ x) c.all.ensures.ran (YieldsList-from_slice c.args.counts.now cc) (λ x q k. search (rules, tests)) (λ x q k. search (rules, tests)))
