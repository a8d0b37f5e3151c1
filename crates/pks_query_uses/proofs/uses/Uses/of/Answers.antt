use Rattle.std.proofs.Common.{subst}
use Rattle.pks_terms.specs.Views.{literal_of, literals_in}
use Rattle.pks_lcw.specs.Entries.{entry_of}
use Rattle.pks_query_uses.specs.Occurring.{in_literal, in_group, in_entry}
use Rattle.pks_query_uses.specs.Indexes.{IsIndexOf}
use Rattle.pks_query_uses.proofs.UsesLaws.{uses_of}
use Rattle.pks_query_uses.proofs.uses.Uses.of.Goals as goal

pub returns : goal.returns
returns c =
    uses_of c.args.five.now (record { literals = c.in_ok-literals.literals; groups = c.in_ok-groups.groups; entries = c.in_ok-entries.entries }) c.len-known.ensures.ordered
    (subst (λ ls. IsIndexOf (λ l. in_literal (literal_of l)) ls c.in_ok-literals.literals) c.items.ensures.members c.in_ok-literals.ensures)
    (subst (λ gs. IsIndexOf (λ g. in_group (literals_in g)) gs c.in_ok-groups.groups) c.items-2.ensures.members c.in_ok-groups.ensures)
    (subst (λ es. IsIndexOf (λ e. in_entry (entry_of e)) es c.in_ok-entries.entries) c.items-3.ensures.members c.in_ok-entries.ensures)
