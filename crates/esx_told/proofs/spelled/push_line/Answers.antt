use Rattle.std.proofs.Common.{◌≡◌, ◌+◌, ◌-◌, ◌++◌, ◌∷◌, [], decimal, length, refl, ap, sym, ◌∙◌, append_assoc, length-append, arith, rules, true}
use Rattle.esx_words.specs.Commands.{spelling}
use Rattle.esx_replies.specs.Replies.{reply_text}
use Rattle.esx_session.specs.Sessions.{quoted}
use Rattle.esx_session.specs.Printing.{line_text}
use Rattle.esx_writing.specs.declared.buffer.TheConstants.{ROOM}
use Rattle.esx_told.proofs.LineLemmas.{reply_stands, reply_within, spelled_line}
use Rattle.esx_told.proofs.spelled.push_line.Goals as goal

pub returns-clause-some : goal.returns-clause-some
returns-clause-some c =
    let line = c.args.line.now in
    let old = c.args.text.now.items in
    let text = c.push_call.new.text.items in
    let held = c.push_call.new.held in
    let new = c.append_held.new.text.items in
    let is : c.args.spelled.now ≡ spelling line.call = search rules in
    let head = decimal line.caller ++ 32 ∷ (c.args.spelled.now ++ 10 ∷ []) in
    let r = reply_text line.reply in
    let begun : text ++ held ≡ old ++ head = search rules in
    let count = c.len.result + (ROOM - c.room.result) in
    let many : count ≡ length (text ++ held) = omega (arith, c.len.ensures, c.room.ensures, length-append text held) in
    let one : quoted r ≡ 61 ∷ 32 ∷ r = c.is_brief.ensures.line (search rules) (61 ∷ 32 ∷ []) line.reply.jumps in
    let is_held : c.hold_reply.result ≡ true = search rules in
    let added : new ≡ text ++ c.hold_reply.new.held = search rules in
    let whole : new ≡ (text ++ held) ++ quoted r = added ∙ ap (λ v. text ++ v) (c.hold_reply.ensures is_held) ∙ sym (append_assoc text held (quoted r)) in
    let spelled : head ++ quoted r ≡ line_text line = spelled_line (head ++ quoted r) c.args.spelled.now line is refl in (
      whole ∙ ap (λ v. v ++ quoted r) begun ∙ append_assoc old head (quoted r) ∙ ap (λ v. old ++ v) spelled,
      reply_within new (text ++ held) r count many whole one,
      reply_stands new (text ++ held) r count many whole one,
    )
