use Rattle.std.proofs.Common.{◌≡◌, true, sym, ◌∙◌}
use Rattle.pks_terms.specs.Views.{atom_of, signature_of}
use Rattle.pks_search_witness.specs.Typing.{is_typed_atom}
use Rattle.pks_search_witness.proofs.Typed.{set_typed}
use Rattle.pks_search_witness.proofs.puttings.put_atom.Goals as goal

pub returns-in_ok-put_atom : goal.returns-in_ok-put_atom
returns-in_ok-put_atom c =
    let s = signature_of c.args.p.now.signature in
    let a = atom_of c.with_values-at.result in
    let typed : is_typed_atom s a ≡ true = sym c.is_typed_atom.ensures ∙ c.if-is_typed_atom.true in
    c.put_atom.ensures.of_signature s (set_typed s a typed) c.requires
