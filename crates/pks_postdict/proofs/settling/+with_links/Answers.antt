use Rattle.std.proofs.Common.{◌≡◌, ◌+◌, ◌∷◌, [], rules, length, ap, ◌∙◌}
use Rattle.std.proofs.lemmas.List.{length-append}
use Rattle.pks_terms.specs.Databases.{Five}
use Rattle.pks_terms.specs.Closure.{tidied, IsClosed}
use Rattle.pks_terms.specs.Actions.{Instance}
use Rattle.pks_terms.specs.Settling.{History}
use Rattle.pks_terms.specs.Views.{instance_of, signature_of}
use Rattle.pks_query_lookup.specs.Fives.{five_of}
use Rattle.pks_postdict.proofs.Stepping.{rest_each, rest_few}
use Rattle.pks_postdict.proofs.settling.+with_links.Goals as goal

pub with_links-requires : goal.with_links-requires
with_links-requires t c =
    let longer : length c.in_ok-h-in-len1-up.h.steps ≡ length c.args.h.steps + 1 =
    ap (λ (h : History). length h.steps) c.in_ok-h-in-len1-up.ensures ∙ length-append c.args.h.steps ((instance_of c.x-item.result.step, five_of c.in_ok-db-in-len1-up.db) ∷ []) in (
      search rules,
      (
        c.requires.values,
        (
          rest_each (λ (step : Instance × Five). IsClosed (signature_of c.args.s.now) (tidied step.1)) c.args.later.now c.requires.closed,
          rest_few c.args.later.now (length c.in_ok-h-in-len1-up.h.steps) (length c.args.h.steps) c.in-len1-up.len_at_least c.requires.few longer,
        ),
      ),
    )
