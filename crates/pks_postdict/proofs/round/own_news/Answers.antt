use Rattle.std.proofs.Common.{◌≡◌, false, ap, subst}
use Rattle.pks_terms.specs.Databases.{Five}
use Rattle.pks_terms.specs.Closure.{additions}
use Rattle.pks_terms.specs.Views.{signature_of}
use Rattle.pks_kf.specs.Known.{literals_of}
use Rattle.pks_query_closing.specs.Rounds.{HaveSameMembers}
use Rattle.pks_postdict.specs.Families.{held_of}
use Rattle.pks_postdict.specs.Growing.{is_unread}
use Rattle.pks_postdict.proofs.Completing.{completes_members, completes_none}
use Rattle.pks_postdict.proofs.round.own_news.Goals as goal

pub returns-then-not-is_unread : goal.returns-then-not-is_unread
returns-then-not-is_unread c =
    let still : is_unread c.args.place.now.held c.args.place.now.grew ≡ false = cc (c.is_unread.ensures) in
    completes_none _ _ (additions (signature_of c.args.s.now) (held_of c.args.place.now.held)) (ap literals_of c.new.ensures.items) (c.requires.spared.0 still)

pub returns : goal.returns
returns c =
    let s = signature_of c.args.s.now in
    completes_members _ _ (additions s (held_of c.args.place.now.held))
    (subst (λ (d : Five). HaveSameMembers (literals_of c.in_ok-all.all.items) (additions s d)) c.lookup.ensures c.in_ok-all.ensures.members)
