use Rattle.esx_model.proofs.Books.{book_read}
use Rattle.esx_model.proofs.laws.book_is_read.Goals as goal

pub returns : goal.returns
returns c = book_read
