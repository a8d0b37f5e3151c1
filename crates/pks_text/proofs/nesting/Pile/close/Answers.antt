use Rattle.std.proofs.Common.{rules, ◌≡◌, ◌∷◌, ◌++◌, [], List, ℕ, ◌+◌, ap, sym, ◌∙◌}
use Rattle.std.specs.List.{flat_map}
use Rattle.pks_text.specs.declared.tree.Form.{Form as CodeForm}
use Rattle.pks_text.specs.declared.tree.Form.TheVariants as code
use Rattle.pks_text.specs.declared.nesting.Open.{Open}
use Rattle.pks_text.specs.Forms.{form_marks, forms_marks, Opens, Closes}
use Rattle.pks_text.specs.Faults.{opened}
use Rattle.pks_text.specs.FormViews.{form_view, forms_view, pile_marks, open_places}
use Rattle.pks_text.proofs.FormLaws.{view_list}
use Rattle.pks_text.proofs.Piles.{close_marks, places_push}
use Rattle.pks_text.specs.FormViews.{words_in}
use Rattle.pks_text.proofs.Lent.{outer_words, close_words}
use Rattle.pks_text.proofs.nesting.Pile.close.Goals as goal

pub returns-in_ok-push-in-Some-clause-marks : goal.returns-in_ok-push-in-Some-clause-marks
returns-in_ok-push-in-Some-clause-marks c =
    let o = c.in-Some.open in
    let os = c.pop.new.self.items in
    let x = code.List c.replace-parts.result (record { start = o.start; end = c.args.at + 1 }) in
    let popped : c.args.self.now.outer.items ≡ os ++ o ∷ [] = search rules in
    let inner : c.replace-parts.result.items ≡ c.args.self.now.parts.items = search rules in
    let outer : c.push.new.self.items ≡ o.parts.items ++ x ∷ [] = search rules in
    let seen : form_marks (form_view x) ≡ Opens o.start ∷ (forms_marks (forms_view c.args.self.now.parts.items) ++ Closes (c.args.at + 1) ∷ []) =
    ap form_marks (view_list c.replace-parts.result (record { start = o.start; end = c.args.at + 1 }))
    ∙ ap (λ (xs : List CodeForm). Opens o.start ∷ (forms_marks (forms_view xs) ++ Closes (c.args.at + 1) ∷ [])) inner in
    ap (λ (xs : List CodeForm). pile_marks os ++ forms_marks (forms_view xs)) outer
    ∙ close_marks os o c.args.self.now.parts.items x (c.args.at + 1) seen
    ∙ ap (λ (os : List Open). (pile_marks os ++ forms_marks (forms_view c.args.self.now.parts.items)) ++ Closes (c.args.at + 1) ∷ []) (sym popped)

pub returns-in_ok-push-in-Some-clause-places : goal.returns-in_ok-push-in-Some-clause-places
returns-in_ok-push-in-Some-clause-places c =
    let o = c.in-Some.open in
    let os = c.pop.new.self.items in
    let popped : c.args.self.now.outer.items ≡ os ++ o ∷ [] = search rules in
    ap (λ (ps : List ℕ). opened ps (Closes (c.args.at + 1))) (ap (λ (os : List Open). open_places [] os) popped ∙ places_push [] os o)

pub returns-in_ok-push-in-Some-clause-words : goal.returns-in_ok-push-in-Some-clause-words
returns-in_ok-push-in-Some-clause-words c =
    let o = c.in-Some.open in
    let os = c.pop.new.self.items in
    let popped : c.args.self.now.outer.items ≡ os ++ o ∷ [] = search rules in
    let inner : c.replace-parts.result.items ≡ c.args.self.now.parts.items = search rules in
    let outer : c.push.new.self.items ≡ o.parts.items ++ code.List c.replace-parts.result (record { start = o.start; end = c.args.at + 1 }) ∷ [] = search rules in
    ap (λ (xs : List CodeForm). outer_words os ++ flat_map words_in xs) outer
    ∙ close_words os o c.replace-parts.result (record { start = o.start; end = c.args.at + 1 })
    ∙ ap (λ (xs : List CodeForm). outer_words (os ++ o ∷ []) ++ flat_map words_in xs) inner
    ∙ ap (λ (os : List Open). outer_words os ++ flat_map words_in c.args.self.now.parts.items) (sym popped)
