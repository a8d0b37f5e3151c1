use Rattle.std.proofs.Common.{◌∙◌, ap, sym, ℕ, Bor, List, option_map}
use Rattle.pks_reader_names.proofs.Entries.{said_number}
use Rattle.pks_reader_declared.proofs.functions.object_at.Goals as goal

pub returns-in-Some : goal.returns-in-Some
returns-in-Some c = sym (ap (option_map (λ (p : Bor (Bor (List ℕ)) × Bor ℕ). p.1.now)) c.in-Some.is) ∙ said_number c.args.objects.now.entries c.args.i c.get_index.result c.get_index.ensures.entry

pub returns-in-None : goal.returns-in-None
returns-in-None c = sym (ap (option_map (λ (p : Bor (Bor (List ℕ)) × Bor ℕ). p.1.now)) c.in-None.is) ∙ said_number c.args.objects.now.entries c.args.i c.get_index.result c.get_index.ensures.entry
