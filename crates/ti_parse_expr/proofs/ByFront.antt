-- The result for a list that is computed from the result for its prefix is proved to be that of the parser with the weight limit.
use Rattle.std.proofs.Common.{◌≡◌, ℕ, suc, ◌+◌, ◌-◌, ◌<◌, List, length, drop, Result, Ok, Err, refl, sym, ap, ◌∙◌, subst, true, false, Bool, if◌then◌else◌}
use denote.Ref.{MutBor}
use Rattle.ti_syntax.specs.declared.token.Token.{Token}
use Rattle.ti_parse_expr.specs.declared.parse_stop.ParseStop.{ParseStop}
use Rattle.ti_parse_expr.specs.declared.parse_stop.ParseStop.TheVariants as stop
use Rattle.ti_parse_expr.specs.Mirrors.Input.{At, Over, OutOfFuel, ParseOutcome, Parser, ParsesAs}
use Rattle.ti_parse_expr.specs.Mirrors.Full.{exceeds_weight, widen_outcome, with_weight_limit}
use Rattle.ti_parse_expr.specs.Mirrors.ByFront.{is_final, Widens, final, passes, moves, ByFront}

module _ {T B : Type 0} (view : T → B) (weight : ℕ) (list front : List Token) where
  abbrev over : ParseOutcome B
  over = Err (Over (drop (length front - 1) list))

  -- where the front was passed, whatever the answer
  over_reads : (o : ParseOutcome B) (new : List Token) → widen_outcome weight list front o ≡ over → new ≡ drop (length front - 1) list → ParsesAs view (widen_outcome weight list front o) (Err stop.TooDeep) new
  over_reads o new is at = is ∙ ap (λ z. Err (Over z)) (sym at)

  passed_if : (left : List Token) (other out : ParseOutcome B) (c : Bool) → exceeds_weight weight front (length left) ≡ c → out
      ≡ (if exceeds_weight weight front (length left) then over else other) → out ≡ (if c then over else other)
  passed_if left other out c h is = is ∙ ap (λ b. if b then over else other) h

  moved : (o : ParseOutcome B) (answer : Result T ParseStop) (left new : List Token) → ParsesAs view o answer left → is_final answer ≡ false
      → exceeds_weight weight front (length left) ≡ false → new ≡ drop (length front - length left) list
      → ParsesAs view (widen_outcome weight list front o) answer new
  moved o (Ok x) left new is not h at = passed_if left (Ok (view x, drop (length front - length left) list))
      (widen_outcome weight list front o) false h (ap (widen_outcome weight list front) is) ∙ ap (λ z. Ok (view x, z)) (sym at)
  moved o (Err stop.Refused) left new is not h at = passed_if left (Err (At (drop (length front - length left) list)))
      (widen_outcome weight list front o) false h (ap (widen_outcome weight list front) is) ∙ ap (λ z. Err (At z)) (sym at)
  moved o (Err stop.TooDeep) left new is not h at = passed_if left (Err (Over (drop (length front - length left) list)))
      (widen_outcome weight list front o) false h (ap (widen_outcome weight list front) is) ∙ ap (λ z. Err (Over z)) (sym at)
  moved o (Err stop.Memory) left new is not h at = cc
  moved o (Err stop.OutOfFuel) left new is not h at = cc

  over_all : (o : ParseOutcome B) (answer : Result T ParseStop) (left : List Token) → ParsesAs view o answer left → is_final answer ≡ false
      → exceeds_weight weight front (length left) ≡ true → widen_outcome weight list front o ≡ over
  over_all o (Ok x) left is not h = passed_if left (Ok (view x, drop (length front - length left) list)) (widen_outcome weight list front o) true h (ap (widen_outcome weight list front) is)
  over_all o (Err stop.Refused) left is not h = passed_if left (Err (At (drop (length front - length left) list))) (widen_outcome weight list front o) true h (ap (widen_outcome weight list front) is)
  over_all o (Err stop.TooDeep) left is not h = passed_if left (Err (Over (drop (length front - length left) list))) (widen_outcome weight list front o) true h (ap (widen_outcome weight list front) is)
  over_all o (Err stop.Memory) left is not h = cc
  over_all o (Err stop.OutOfFuel) left is not h = cc

  final_reads : (o : ParseOutcome B) (answer : Result T ParseStop) (left new : List Token) → ParsesAs view o answer left → is_final answer ≡ true → ParsesAs view (widen_outcome weight list front o) answer new
  final_reads o (Ok x) left new is holds = cc
  final_reads o (Err stop.Refused) left new is holds = cc
  final_reads o (Err stop.TooDeep) left new is holds = cc
  final_reads o (Err stop.Memory) left new is holds = tt
  final_reads o (Err stop.OutOfFuel) left new is holds = ap (widen_outcome weight list front) is

  widens_reads : (o : ParseOutcome B) (answer : Result T ParseStop) (left new : List Token) (result : Result T ParseStop) → ParsesAs view o answer left → Widens weight list front answer left result new
      → ParsesAs view (widen_outcome weight list front o) result new
  widens_reads o answer left new _ is (final holds) = final_reads o answer left new is holds
  widens_reads o answer left new _ is (passes not holds at) = over_reads o new (over_all o answer left is not holds) at
  widens_reads o answer left new _ is (moves not kept at) = moved o answer left new is not kept at

-- where each answer of the function value is what a parser reads
pub front_reads : {T B : Type 0} (view : T → B) (weight : ℕ) (p : ℕ → Parser B) (post : MutBor (List Token) → ℕ → Result T ParseStop
    → MutBor (List Token) → Type 0) (list : List Token) (result : Result T ParseStop) (new : List Token) (out : ParseOutcome B)
    → with_weight_limit weight p list ≡ out → ((before after : MutBor (List Token)) (n : ℕ) (r : Result T ParseStop) → post before n r after
    → ParsesAs view (p n before.now) r after.now) → ByFront weight post list result new
    → ParsesAs view out result new
front_reads view weight p post list result new out same reads made =
    let there : ParsesAs view (p (suc (length made.before.now)) made.before.now) made.answer made.after.now =
    subst (λ n. ParsesAs view (p n made.before.now) made.answer made.after.now) made.enough (reads made.before made.after made.fuel made.answer made.answers) in
    let front : ParsesAs view (with_weight_limit weight p list) result new =
    subst (λ z. ParsesAs view (widen_outcome weight list z (p (suc (length z)) z)) result new) made.is_front
    (widens_reads view weight list made.before.now (p (suc (length made.before.now)) made.before.now) made.answer made.after.now new result there made.widens) in
    subst (λ o. ParsesAs view o result new) same front
