-- What the definitions say of the worked proofs, computed.
use Rattle.std.proofs.Common.{◌≡◌, true, false, [], ◌∷◌, refl}
use Rattle.std.specs.Prelude.{codes}
use Rattle.pks_terms.specs.Syntax.{negated}
use Rattle.pks_terms.specs.Orders.{term_cmp, term_eq, literal_cmp, literal_eq, literal}
use Rattle.pks_terms.specs.Actions.{literal_at}
use Rattle.pks_terms.specs.Problems.{initial}
use Rattle.pks_terms.specs.Branching.{AsTrue, AsFalse}
use Rattle.pks_terms.specs.Trees.{Goal}
use Rattle.pks_terms.specs.Printed.{literal_text}
use Rattle.pks_terms.specs.Accepting.{accepts}
use Rattle.pks_terms.specs.Explained.{IsExplained, known_fact_text, reason_text, cites_text, proof_line_text, entry_text, explained_text}
use Rattle.pks_laws_examples.specs.Worked.{alive, poison, lawn}
use Rattle.pks_laws_examples.specs.Reasoned.{open_door, door, door_given, door_entry, door_names, poured, seen, alive_kept, poison_found, no_poison_found}

pub door_open : (accepts door [] (door_given 1) open_door ≡ true) × (accepts door [] (door_given 2) open_door ≡ false)
unfolding accepts literal_eq literal_cmp term_cmp term_eq literal initial literal_at
door_open = (refl, refl)

pub door_explained : IsExplained door Goal (door_entry ∷ [])
unfolding accepts literal_eq literal_cmp term_cmp term_eq literal initial literal_at
door_explained = record { whole = refl; accepted = (refl, tt) }

pub door_text : explained_text door_names (door_entry ∷ []) ≡ codes "known (open)\n1 moment 0 (open) given 1\n"
unfolding explained_text entry_text proof_line_text known_fact_text reason_text cites_text literal_text Rattle.std.specs.Fmt.digits
door_text = refl

pub lawn_not_kept : accepts lawn poured alive_kept alive ≡ false
unfolding accepts literal_eq literal_cmp term_cmp term_eq literal initial literal_at
lawn_not_kept = refl

pub past_shown : (accepts lawn (seen AsFalse) poison_found poison ≡ true) × (accepts lawn (seen AsTrue) no_poison_found (negated poison) ≡ true) × (accepts lawn (seen AsTrue) poison_found poison ≡ false)
unfolding accepts literal_eq literal_cmp term_cmp term_eq literal initial literal_at
past_shown = (refl, refl, refl)
