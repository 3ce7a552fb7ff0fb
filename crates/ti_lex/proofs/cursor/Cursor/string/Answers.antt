use Rattle.std.proofs.Common.{◌≡◌, ◌+◌, [], drop, Ok, Err, sym, ap, ◌∙◌, subst}
use Rattle.std.proofs.lemmas.Result.{err_from_is_err_and}
use Rattle.ti_base.specs.Places.{place_of}
use Rattle.ti_lex.specs.Mirrors.Answers.{Scans, ReadsItem}
use Rattle.ti_lex.specs.Mirrors.Cursor.{CursorView, unread_bytes}
use Rattle.ti_lex.specs.Mirrors.Reading.{item, string_from}
use Rattle.ti_lex.proofs.Strings.{item_given, item_refused}
use Rattle.ti_lex.proofs.cursor.Cursor.string.Goals as goal

pub returns-in_err-byte : goal.returns-in_err-byte
returns-in_err-byte c =
    let old = c.args.self.now in
    let spot = c.loop-bytes.self in
    let bytes = c.loop-bytes.bytes.items in
    let e = c.in_err-byte.field-0.0 in
    let p = err_from_is_err_and c.from_residual.result c.from_residual.ensures.1 in
    let same : old.text ≡ spot.text = sym (c.loop-bytes.invariant.same ∙ ap (λ (z : CursorView). z.text) c.advance.ensures.moves) in
    let told : ReadsItem (item (unread_bytes spot)) (place_of old.text old.at) spot c.item.new.self (Err e) =
    subst (λ z. ReadsItem (item (unread_bytes spot)) z spot c.item.new.self (Err e)) c.place-quote.ensures c.in_err-byte.ensures in
    let start : string_from old.at bytes spot.at (unread_bytes spot) ≡ string_from old.at [] (old.at + 1) (drop 1 (unread_bytes old)) =
    c.loop-bytes.invariant.reads ∙ ap (λ b. string_from old.at b c.advance.new.self.at (unread_bytes c.advance.new.self)) c.new-bytes.ensures.items
    ∙ ap (λ (z : CursorView). string_from old.at [] z.at (unread_bytes c.advance.new.self)) c.advance.ensures.moves
    ∙ ap (string_from old.at [] (old.at + 1)) c.advance.ensures.left in
    rw (p.1, p.2) (subst (λ z. Scans z old c.item.new.self (Err e)) start (item_refused old.at bytes spot c.item.new.self old c.item.new.self e same told))

pub loop-bytes-preserved : goal.loop-bytes-preserved
loop-bytes-preserved c =
    let spot = c.loop-bytes.self in
    let told = subst (λ z. ReadsItem (item (unread_bytes spot)) c.place-quote.result spot c.item.new.self (Ok z)) c.in-Some.is c.in_ok-byte.ensures in
    let (same, reads) = item_given c.args.self.now.at c.loop-bytes.bytes.items spot c.item.new.self c.place-quote.result c.in-Some.byte told in
    record {
      same = same ∙ c.loop-bytes.invariant.same;
      reads = ap (λ b. string_from c.args.self.now.at b c.item.new.self.at (unread_bytes c.item.new.self)) c.in_ok-push.ensures.items ∙ reads ∙ c.loop-bytes.invariant.reads;
    }
