-- A conversation: each line is answered in the session that the line before it left.
use Rattle.std.specs.Prelude.{◌≡◌, ℕ, List, [], ◌∷◌, ◌++◌, Option, Some, None, ⊤}
use Rattle.std.specs.Io.BufRead.{drop_through, first_piece}
use Rattle.std.specs.Io.KnownBytes.{Appends}
use Rattle.nova_debug.specs.Answers.{IsReplied, reply_text}
use Rattle.nova_debug.specs.Commands.{command_of, words_of}
use Rattle.nova_debug.specs.Orders.{IsReplyTo, behind_order, order_text, turns_asked}
use Rattle.nova_debug.specs.declared.orders.OrderReply.{OrderReply}
use Rattle.nova_debug.specs.declared.serving.Reply.{Reply}
use Rattle.nova_debug.specs.declared.serving.Session.{Session}

-- words that ask something of the session's run were answered: what is told, and the reply
pub record HasReplied (old : Session) (words : List (List ℕ)) (new : Session) (text : List ℕ) : Type 0 where
  pub told : List ℕ
  pub reply : Reply
  pub replied : IsReplied (command_of words) reply old new [] told
  pub said : text ≡ reply_text reply told

-- words that ask for an order of at most 10,000,000 turns from the state in which the session's run began; the session stays
pub record HasRunOrder (old : Session) (words : List (List ℕ)) (new : Session) (text : List ℕ) : Type 0 where
  pub reply : OrderReply
  pub replied : IsReplyTo old.recording.opening (turns_asked 10000000 words) reply
  pub said : text ≡ order_text reply
  pub stayed : new ≡ old

-- what was answered was written
pub record HasToldReply (old : Session) (words : List (List ℕ)) (new : Session) (before after : Option (List ℕ)) : Type 0 where
  pub text : List ℕ
  pub answered : HasReplied old words new text
  pub written : Appends before after text

pub record HasToldOrder (old : Session) (words : List (List ℕ)) (before after : Option (List ℕ)) : Type 0 where
  pub text : List ℕ
  pub answered : HasRunOrder old words old text
  pub written : Appends before after text

-- a line was answered, by its words and those behind `order`
abbrev pub AreAnswered : Session → List (List ℕ) → Option (List (List ℕ)) → Session → List ℕ → Type 0
AreAnswered old words None new text = HasReplied old words new text
AreAnswered old words (Some behind) new text = HasRunOrder old behind new text

abbrev pub HasAnswered : Session → List ℕ → Session → List ℕ → Type 0
HasAnswered old line new text = AreAnswered old (words_of line) (behind_order (words_of line)) new text

-- and what was answered was written
pub record HasWritten (old : Session) (line : List ℕ) (new : Session) (before after : Option (List ℕ)) : Type 0 where
  pub text : List ℕ
  pub answered : HasAnswered old line new text
  pub written : Appends before after text

-- lines that were answered one after another, and all that was answered
pub data Conversation (first : Session) : List (List ℕ) → List ℕ → Session → Type 0 where
  Begun : Conversation first [] [] first
  Answered : (lines : List (List ℕ)) (text : List ℕ) (before : Session) (line more : List ℕ) (after : Session) → Conversation first lines text before
      → HasAnswered before line after more → Conversation first (lines ++ line ∷ []) (text ++ more) after

-- the lines of bytes: what stands before the first line feed, and the lines of what stands behind it
pub data AreLinesOf : List ℕ → List (List ℕ) → Type 0 where
  NoLine : AreLinesOf [] []
  FirstLine : (b : ℕ) (bs : List ℕ) (lines : List (List ℕ)) → AreLinesOf (drop_through 10 (b ∷ bs)) lines
      → AreLinesOf (b ∷ bs) (first_piece 10 (b ∷ bs) ∷ lines)

-- where bytes are known, all of their lines
abbrev pub AreAllLines : Option (List ℕ) → List (List ℕ) → Type 0
AreAllLines None lines = ⊤
AreAllLines (Some bytes) lines = AreLinesOf bytes lines

-- all lines of what is read were answered, and the answers written
pub record HasConversed (old new : Session) (read before after : Option (List ℕ)) : Type 0 where
  pub lines : List (List ℕ)
  pub text : List ℕ
  pub answered : Conversation old lines text new
  pub all : AreAllLines read lines
  pub written : Appends before after text
