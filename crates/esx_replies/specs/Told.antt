-- What a reader of sessions needs of the text of a reply.
use Rattle.std.specs.Prelude.{ℕ, Bool, true, false, List, [], ◌∷◌, ◌++◌, ◌≡◌}
use Rattle.std.specs.List.{AllByRecursion}
use Rattle.std.specs.Str.{IsAscii}
use Rattle.esx_events.specs.Names.{IsName}
use Rattle.esx_events.specs.declared.call.Said.{Said}
use Rattle.esx_events.specs.declared.call.Said.TheVariants as said
use Rattle.esx_events.specs.declared.call.Reply.{Reply}
use Rattle.esx_replies.specs.Replies.{reply_text}

-- it is ASCII, ends in a line feed, and has no carriage return
pub record IsTold (text : List ℕ) : Type 0 where
  pub ended : (front : List ℕ) × (text ≡ front ++ 10 ∷ [])
  pub ascii : IsAscii text
  pub no_return : AllByRecursion (λ b. b ≡ 13 → ⊥) text

-- the names that are told are names
abbrev pub HasNames : Said → Type 0
HasNames (said.Done answer) = Unit {0}
HasNames (said.Refused refusal) = Unit {0}
HasNames (said.Stand stand) = Unit {0}
HasNames (said.Marked name node) = IsName name
HasNames (said.Pruned count) = Unit {0}
HasNames (said.Sides sides) = Unit {0}
HasNames (said.Sum sum) = Unit {0}
HasNames (said.Table rows sum) = Unit {0}
HasNames (said.Activity activity) = Unit {0}
HasNames (said.Page state) = Unit {0}
HasNames (said.Help help) = Unit {0}
HasNames (said.Marks marks) = AllByRecursion (λ row. IsName row.name) marks

-- the law of all replies
abbrev pub IsReplyTold : Reply → Type 0
IsReplyTold reply = HasNames reply.said → IsTold (reply_text reply)

-- what takes one line, whatever its names are
abbrev pub is_brief : Said → Bool
is_brief (said.Done answer) = true
is_brief (said.Refused refusal) = true
is_brief (said.Stand stand) = true
is_brief (said.Marked name node) = false
is_brief (said.Pruned count) = true
is_brief (said.Sides sides) = false
is_brief (said.Sum sum) = true
is_brief (said.Table rows sum) = false
is_brief (said.Activity activity) = true
is_brief (said.Page state) = true
is_brief (said.Help help) = true
is_brief (said.Marks marks) = false
