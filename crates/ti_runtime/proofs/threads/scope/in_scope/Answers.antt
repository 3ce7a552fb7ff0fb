use Rattle.std.proofs.Common.{◌≡◌, ◌∷◌, [], length, sym, ap, ◌∙◌, subst, rules, arith}
use Rattle.std.specs.List.{All, sum_by}
use Rattle.std.proofs.lemmas.List.Sums.{sum_by-append}
use Rattle.std.proofs.lemmas.List.Elements.{All-nil, All-same}
use Rattle.ti_turnstile.specs.Turnstiles.{identity_of}
use Rattle.ti_runtime.specs.Mirrors.Tasks.{BelongsTo}
use Rattle.ti_runtime.proofs.Fit.{all_before, all_last}
use Rattle.ti_runtime.proofs.threads.scope.in_scope.Goals as goal

pub loop-group-init : goal.loop-group-init
loop-group-init g c =
    let table = identity_of c.args.turnstile.now in
    let old = c.pop.new.self.items in
    let mine = c.in-Some.mine in
    let items = c.in-Some.ensures.items in
    let sum = ap (λ l. sum_by (λ v. length v.items) l) items ∙ sum_by-append (λ v. length v.items) old (mine ∷ []) in
    let none = c.in_ok-handles.ensures.items in
    record {
      mine = All-same (BelongsTo table) c.reserve.new.self.items mine.items (search rules) (all_last (λ v. All (BelongsTo table) v.items) c.args.groups.items old mine items c.requires.groups);
      groups = all_before (λ v. All (BelongsTo table) v.items) c.args.groups.items old mine items c.requires.groups;
      flags = search (rules, items);
      handles = subst (λ l. All (λ h. identity_of h.promise.turnstile.now ≡ table) l) (sym none) (All-nil (λ h. identity_of h.promise.turnstile.now ≡ table));
      count = search (rules, arith, sum, none, c.requires.all);
      room = search (rules, arith);
      place = search (rules, arith, none);
    }

pub start_one-requires-clause-group : goal.start_one-requires-clause-group
start_one-requires-clause-group g c κs within =
    let table = identity_of c.args.turnstile.now in
    all_last (λ v. All (BelongsTo table) v.items) c.loop-group.groups.items c.pop-in-loop-group.new.self.items c.in-Some-pop.group c.in-Some-pop.ensures.items c.loop-group.invariant.groups

pub start_one-requires-clause-room : goal.start_one-requires-clause-room
start_one-requires-clause-room g c κs within =
    let old = c.pop-in-loop-group.new.self.items in
    let group = c.in-Some-pop.group in
    let items = c.in-Some-pop.ensures.items in
    let inv = c.loop-group.invariant in
    let sum = ap (λ l. sum_by (λ v. length v.items) l) items ∙ sum_by-append (λ v. length v.items) old (group ∷ []) in
    omega (arith, sum, inv.count, inv.room, group.ok.0, c.loop-group.mine.ok.0)

pub loop-group-preserved : goal.loop-group-preserved
loop-group-preserved g c =
    let table = identity_of c.args.turnstile.now in
    let old = c.pop-in-loop-group.new.self.items in
    let group = c.in-Some-pop.group in
    let items = c.in-Some-pop.ensures.items in
    let inv = c.loop-group.invariant in
    let sum = ap (λ l. sum_by (λ v. length v.items) l) items ∙ sum_by-append (λ v. length v.items) old (group ∷ []) in
    let one = ap length items in
    record {
      mine = c.start_one.ensures.mine;
      groups = all_before (λ v. All (BelongsTo table) v.items) c.loop-group.groups.items old group items inv.groups;
      flags = search (rules, items);
      handles = c.start_one.ensures.handles;
      count = omega (arith, sum, inv.count, c.start_one.ensures.count);
      room = omega (arith, inv.room, c.start_one.ensures.room);
      place = search (rules, arith, items, inv.place, c.start_one.ensures.more, c.start_one.ensures.place);
    }
