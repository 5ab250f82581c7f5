-- An entry that is laid out in a list.
use Rattle.fl_session.specs.declared.whole.Listed.{Listed}
use Rattle.fl_wire.specs.Listing.{Dirent, dirent_of}

-- what a list tells of it
abbrev pub entry_of : Listed → Dirent
entry_of e = dirent_of e.node e.cookie e.mode e.name.now
