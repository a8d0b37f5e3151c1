use Rattle.std.proofs.Common.{not, ◌&&◌, sym, ap, ◌∙◌}
use Rattle.pks_terms.specs.Actions.{query_at}
use Rattle.pks_terms.specs.Queries.{answers}
use Rattle.pks_terms.specs.Views.{given_of, query_of, signature_of}
use Rattle.pks_query_lookup.specs.Fives.{five_of}
use Rattle.pks_branch.proofs.early.is_barred_by.Goals as goal

pub returns-then-can_be_asked : goal.returns-then-can_be_asked
returns-then-can_be_asked c =
    let s = signature_of c.args.s.now in
    let d = five_of c.args.d.now in
    let q = query_at (given_of c.args.given.now) (query_of c.args.q.now) in
    ap not (c.answers.ensures.tells ∙ ap (answers s d) c.at.ensures.says) ∙ ap (λ b. b && not (answers s d q)) (sym (sym c.can_be_asked.ensures ∙ c.if-can_be_asked.true))

pub returns-else-can_be_asked : goal.returns-else-can_be_asked
returns-else-can_be_asked c =
    let s = signature_of c.args.s.now in
    let d = five_of c.args.d.now in
    let q = query_at (given_of c.args.given.now) (query_of c.args.q.now) in
    c.if-can_be_asked.false ∙ ap (λ b. b && not (answers s d q)) (sym (sym c.can_be_asked.ensures ∙ c.if-can_be_asked.false))
