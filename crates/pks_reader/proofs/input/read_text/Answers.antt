use Rattle.std.proofs.Common.{length, map, refl}
use Rattle.std.proofs.lemmas.Bool.{false≢true}
use Rattle.pks_text.specs.Faults.{IsFirstFault, IsAnswered}
use Rattle.pks_text.specs.FormViews.{form_view}
use Rattle.pks_text.specs.declared.tree.FormFault.{FormFault}
use Rattle.pks_reader.specs.Files.{AreRefused}
use Rattle.pks_reader.specs.Texts.{IsRefused}
use Rattle.pks_reader.proofs.Deciding.{HasNoFault, err_as, refuses, stated_in, refused_in, text_refuses, text_not_stated, text_refused_once}
use Rattle.pks_reader.proofs.Declaring.{text_read, text_states}
use Rattle.pks_reader.proofs.input.read_text.Goals as goal

pub returns-in-Ok : goal.returns-in-Ok
returns-in-Ok c =
    let text = c.args.source.now in
    let top = c.in-Ok.forms.top.items in
    let fs = map form_view top in
    let spelled = c.in-Ok.ensures.spelled in
    let none : HasNoFault text = λ fault is. (c.in-Ok.ensures.only fault is).1 refl in
    let r = c.read_forms.result in
    record {
      source = c.read_forms.ensures.source;
      text = text_read text top r (record { spelled = spelled; faultless = none }) c.read_forms.ensures.forms;
      states = text_states top r c.read_forms.ensures.forms c.read_forms.ensures.states;
      valid = c.read_forms.ensures.valid;
      refused = err_as (AreRefused (length text) fs) (IsRefused text) r (λ f is. refuses text fs f spelled none is) c.read_forms.ensures.refused;
      only_stated = λ p n s. c.read_forms.ensures.only_stated p n (stated_in text fs p n spelled s);
      only_refused = λ f is. c.read_forms.ensures.only_refused f (refused_in text fs f spelled none is);
    }

pub returns-in-Err : goal.returns-in-Err
returns-in-Err c =
    let text = c.args.source.now in
    let fault = c.in-Err.fault in
    let e = c.text_refused.result in
    let is = c.in-Err.ensures.fault in
    let turns = c.text_refused.ensures.refused in
    let only : (first : FormFault) → IsFirstFault text first → IsAnswered first fault = λ first first_is. (c.in-Err.ensures.only first first_is).0 in
    record {
      source = tt;
      text = tt;
      states = tt;
      valid = tt;
      refused = text_refuses text fault e is turns;
      only_stated = λ p n s. (tt, text_not_stated text fault e is turns p n s);
      only_refused = λ f refused. (λ ok. false≢true ok, text_refused_once text fault e is only turns f refused);
    }
