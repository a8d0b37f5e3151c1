use Rattle.std.proofs.Common.{rules, ◌≡◌, ◌≤◌, ◌+◌, ◌*◌, ap, subst, map, length, vec_len, vec_capacity, arith}
use Rattle.pks_terms.specs.Views.{names_of}
use Rattle.pks_agent.specs.Rooms.{IsLongest}
use Rattle.pks_agent.proofs.Longest.{fits_actions}
use Rattle.pks_agent.proofs.desks.longest_line.Goals as goal

pub returns : goal.returns
returns c =
    let names = names_of c.args.p.now in
    let action = c.longest_action.result.now in
    let object = c.longest_name.result.now in
    let actions : IsLongest names.actions action = subst (λ xs. IsLongest (map (λ x. x.name.now) xs) action) c.as_slice-2.ensures c.longest_action.ensures in
    let objects : IsLongest names.objects object = subst (λ xs. IsLongest (map (λ x. x.now) xs) object) c.as_slice.ensures c.longest_name.ensures in
    let object_long : length c.as_bytes-object.result.now ≡ length object = ap length c.as_bytes-object.ensures.value in
    let action_long : length c.as_bytes-action.result.now ≡ length action = ap length c.as_bytes-action.ensures.value in
    let within : vec_len c.add_line.new.line ≤ vec_capacity c.add_line.new.line = search rules in
    let none = c.new-line.ensures.len in
    let long = c.in_ok-add_line.ensures in
    let room : length action + 4 * (1 + length object) + 5 ≤ vec_capacity c.add_line.new.line = omega (arith, object_long, action_long, within, none, long) in
    fits_actions names action object actions objects (vec_capacity c.add_line.new.line) room
