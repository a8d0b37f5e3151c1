use Rattle.std.proofs.Common.{◌∙◌, ap, sym, map, take}
use Rattle.pks_terms.specs.Signatures.{range_of}
use Rattle.pks_terms.specs.Talk.{object_named}
use Rattle.pks_terms.specs.Views.{inner_of, signature_of, names_of, term_of}
use Rattle.pks_agent.proofs.fit.value.Goals as goal

pub returns-in-App : goal.returns-in-App
returns-in-App c =
    c.named_value.ensures (map inner_of (take c.in-App.n c.in-App.args))
    ∙ ap (λ t. object_named (names_of c.args.p.now) (range_of (signature_of c.args.p.now.signature) (term_of t)) c.args.answer.now) (sym c.in-App.is)
