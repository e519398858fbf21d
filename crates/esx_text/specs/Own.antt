-- The words of the console alone: they are no calls, and no session has them.
use Rattle.std.specs.Prelude.{ℕ, List, codes, map}
use Rattle.esx_model.specs.declared.scene.Site.{Site}
use Rattle.esx_model.specs.History.{scene_at}
use Rattle.esx_model.specs.Console.{Session, history}
use Rattle.esx_session.specs.Sessions.{session_text, logged}
use Rattle.esx_order.specs.declared.above.Above.{Above}
use Rattle.esx_order.specs.Order.{IsOrderOf}
use Rattle.esx_order.specs.Telling.{order_text}
use Rattle.esx_text.specs.declared.own.OwnWord.{OwnWord}
use Rattle.esx_text.specs.declared.own.OwnWord.TheVariants as own

-- the line of a word
abbrev pub own_line : OwnWord → List ℕ
own_line own.Session = codes "session"
own_line own.Order = codes "order"

-- what a session is told as
abbrev pub told_text : Session → List ℕ
told_text session = session_text session.site (map logged session.log)

-- the site that a session has led to
abbrev pub site_of : Session → Site
site_of session = (scene_at (history session)).site

-- A word is answered by a text, and the session stays.
pub data IsOwnText (session : Session) : OwnWord → List ℕ → Type 0 where
  told : IsOwnText session own.Session (told_text session)
  ordered : (order : List Above) → IsOrderOf (site_of session) order → IsOwnText session own.Order (order_text order)
