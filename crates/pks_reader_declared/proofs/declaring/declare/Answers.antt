use Rattle.std.proofs.Common.{◌≡◌, ◌∙◌, Option, true, false, map, is_some, option_map, refl, ap, sym, rules, Bor}
use Rattle.pks_reader_names.specs.Tables.{entry_of}
use Rattle.pks_reader_names.specs.Views.{names_of}
use Rattle.pks_reader_names.proofs.Entries.{declared_already, inserted_view}
use Rattle.pks_reader_declared.proofs.declaring.declare.Goals as goal

shown : {X : Type 0} (r : Option (Bor X)) → is_some (option_map (λ a. a.now) r) ≡ is_some r
shown r = search rules

pub returns-in_ok-insert : goal.returns-in_ok-insert
returns-in_ok-insert g c =
    let none : is_some (entry_of (names_of c.args.table.now) c.args.name.now) ≡ false = sym (ap is_some c.entry.ensures) ∙ shown c.entry.result ∙ search rules in
    ap (λ es. map (λ e. (e.0.now, e.1)) es) c.in_ok-insert.ensures.entries
    ∙ inserted_view _ (λ k. k.now) c.args.table.now.entries c.args.name c.args.said (λ e. refl) none

pub returns-else-is_none : goal.returns-else-is_none
returns-else-is_none g c =
    let there : is_some (entry_of (names_of c.args.table.now) c.args.name.now) ≡ true = sym (ap is_some c.entry.ensures) ∙ shown c.entry.result ∙ c.if-is_none.ensures in
    declared_already (names_of c.args.table.now) c.args.name.now c.args.said there
