use Rattle.law_renaming.proofs.Spaces.{page_bytes, space_agrees}
use Rattle.law_renaming.proofs.renamed_guests_read_the_same.Goals as goal

pub returns-clause-addresses : goal.returns-clause-addresses
returns-clause-addresses c = space_agrees

pub returns-clause-pages : goal.returns-clause-pages
returns-clause-pages c = page_bytes
