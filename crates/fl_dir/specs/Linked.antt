-- How the arenas of a directory are linked.
use Rattle.fl_arena.specs.Chains.{IsLinked}
use Rattle.fl_dir.specs.declared.arenas.DirArenas.{DirArenas}

-- in each of the three arenas no slot is linked twice, and none is free while it is linked
pub record AreLinked (a : DirArenas) : Type 0 where
  pub nodes : IsLinked a.nodes.now
  pub names : IsLinked a.names.now
  pub files : IsLinked a.files.now
