use Rattle.std.proofs.Common.{◌≡◌, List, Bool, false, cond, refl, sym, subst}
use Rattle.std.specs.BTreeMap.{is_at}
use Rattle.std.specs.BTreeSet.{contains}
use Rattle.ti_blame.specs.declared.reason.Reason.{Reason}
use Rattle.ti_blame.specs.declared.mark.MarkKey.{MarkKey}
use Rattle.ti_blame.specs.declared.search.Link.{Link}
use Rattle.ti_blame.specs.declared.search.Search.{Search}
use Rattle.ti_blame.specs.Keys.{key_cmp}
use Rattle.ti_blame.specs.Chains.{IsPremise}
use Rattle.ti_blame.proofs.Linking.{Takes, takes_extends, takes_sound, takes_links}
use Rattle.ti_blame.proofs.search.reach.Goals as goal

pub returns-in_ok-push-clause-extends : goal.returns-in_ok-push-clause-extends
returns-in_ok-push-clause-extends c =
    let s = c.args.state.now in
    let t : Search = record { named = s.named; unseen = c.remove.new.self; links = c.push.new.self } in
    let link : Link = record { reason = c.reason_of.result; step = c.args.step; next = c.args.next } in
    let P : MarkKey → Type 0 = λ k. (q : MarkKey) → contains key_cmp c.remove.new.self q ≡ cond (is_at (key_cmp k) q) false (contains key_cmp s.unseen q) in
    let takes : Takes c.args.mark link s t = record { same = refl; had = subst P c.of.ensures c.remove.ensures.updates.0; more = c.in_ok-push.ensures.items; less = c.if-remove.ensures.len; reason = c.reason_of.ensures } in
    takes_extends c.args.mark link s t takes

pub returns-in_ok-push-clause-sound : goal.returns-in_ok-push-clause-sound
returns-in_ok-push-clause-sound c =
    let s = c.args.state.now in
    let t : Search = record { named = s.named; unseen = c.remove.new.self; links = c.push.new.self } in
    let link : Link = record { reason = c.reason_of.result; step = c.args.step; next = c.args.next } in
    let P : MarkKey → Type 0 = λ k. (q : MarkKey) → contains key_cmp c.remove.new.self q ≡ cond (is_at (key_cmp k) q) false (contains key_cmp s.unseen q) in
    let takes : Takes c.args.mark link s t = record { same = refl; had = subst P c.of.ensures c.remove.ensures.updates.0; more = c.in_ok-push.ensures.items; less = c.if-remove.ensures.len; reason = c.reason_of.ensures } in
    takes_sound c.args.mark link s t takes

pub returns-in_ok-push-clause-links : goal.returns-in_ok-push-clause-links
returns-in_ok-push-clause-links c =
    let s = c.args.state.now in
    let t : Search = record { named = s.named; unseen = c.remove.new.self; links = c.push.new.self } in
    let link : Link = record { reason = c.reason_of.result; step = c.args.step; next = c.args.next } in
    let P : MarkKey → Type 0 = λ k. (q : MarkKey) → contains key_cmp c.remove.new.self q ≡ cond (is_at (key_cmp k) q) false (contains key_cmp s.unseen q) in
    let takes : Takes c.args.mark link s t = record { same = refl; had = subst P c.of.ensures c.remove.ensures.updates.0; more = c.in_ok-push.ensures.items; less = c.if-remove.ensures.len; reason = c.reason_of.ensures } in
    λ items edges premise step joined are. takes_links c.args.mark link s t takes items edges
    (record { earlier = joined.0; premise = subst (λ (b : Reason). IsPremise b c.args.step.implication.from) (sym c.reason_of.ensures) premise; is_step = step; joined = joined.1 }) are
