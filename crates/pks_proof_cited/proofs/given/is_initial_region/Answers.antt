use Rattle.std.proofs.Common.{◌≡◌, ◌==◌, ◌&&◌, subst}
use Rattle.std.specs.List.{list_all}
use Rattle.std.specs.Ordering.{is_eq}
use Rattle.pks_terms.specs.Orders.{atom_cmp, pattern_cmp}
use Rattle.pks_terms.specs.Databases.{entry_cmp}
use Rattle.pks_terms.specs.Problems.{initial, initial_entry}
use Rattle.pks_terms.specs.Views.{atom_of, pattern_of, problem_of}
use Rattle.pks_lcw.specs.Entries.{atoms_of, entry_of}
use Rattle.pks_proof_cited.specs.Givens.{starts_of, is_said, is_taken}
use Rattle.pks_proof_cited.proofs.Starting.{initial_list, third_of, second_of, ordered_viewed}
use Rattle.pks_proof_cited.proofs.given.is_initial_region.Goals as goal

pub returns-then-are_said : goal.returns-then-are_said
returns-then-are_said c =
    let p = problem_of c.args.p.now in
    let x = pattern_of c.args.x.now in
    let e = entry_of c.args.e.now in
    let said : c.are_said.result ≡ list_all (λ a. (a.predicate == x.predicate) && is_said p.init a) e.listed =
    subst (λ zs. c.are_said.result ≡ list_all (λ a. (a.predicate == x.predicate) && is_said p.init a) (atoms_of zs)) c.as_slice-atoms.ensures.members
    (subst (λ items. c.are_said.result ≡ list_all (λ a. (a.predicate == x.predicate) && is_said (starts_of items) a) (atoms_of c.as_slice-atoms.result.now)) c.as_slice-items.ensures c.are_said.ensures) in
    let taken : c.are_taken.result ≡ list_all (is_taken x.predicate e.listed) p.init =
    subst (λ zs. c.are_taken.result ≡ list_all (is_taken x.predicate (atoms_of zs)) p.init) c.as_slice-atoms.ensures.members
    (subst (λ items. c.are_taken.result ≡ list_all (is_taken x.predicate (atoms_of c.as_slice-atoms.result.now)) (starts_of items)) c.as_slice-items.ensures c.are_taken.ensures) in
    third_of c.eq.result c.are_said.result c.are_taken.result (is_eq (entry_cmp (initial_entry (initial p).kf x) e)) (is_eq (pattern_cmp x e.pattern)) (list_all (λ a. (a.predicate == x.predicate) && is_said p.init a) e.listed) (list_all (is_taken x.predicate e.listed) p.init)
    (initial_list p x e (ordered_viewed atom_of atom_cmp c.args.e.now.list c.as_slice-atoms.ensures.ordered)) c.eq.ensures c.if-eq.true said c.if-are_said.true taken

pub returns-else-are_said : goal.returns-else-are_said
returns-else-are_said c =
    let p = problem_of c.args.p.now in
    let x = pattern_of c.args.x.now in
    let e = entry_of c.args.e.now in
    let said : c.are_said.result ≡ list_all (λ a. (a.predicate == x.predicate) && is_said p.init a) e.listed =
    subst (λ zs. c.are_said.result ≡ list_all (λ a. (a.predicate == x.predicate) && is_said p.init a) (atoms_of zs)) c.as_slice-atoms.ensures.members
    (subst (λ items. c.are_said.result ≡ list_all (λ a. (a.predicate == x.predicate) && is_said (starts_of items) a) (atoms_of c.as_slice-atoms.result.now)) c.as_slice-items.ensures c.are_said.ensures) in
    second_of c.eq.result c.are_said.result (is_eq (entry_cmp (initial_entry (initial p).kf x) e)) (is_eq (pattern_cmp x e.pattern)) (list_all (λ a. (a.predicate == x.predicate) && is_said p.init a) e.listed) (list_all (is_taken x.predicate e.listed) p.init)
    (initial_list p x e (ordered_viewed atom_of atom_cmp c.args.e.now.list c.as_slice-atoms.ensures.ordered)) c.eq.ensures c.if-eq.true said c.if-are_said.false
