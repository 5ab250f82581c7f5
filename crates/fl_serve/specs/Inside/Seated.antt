-- What a board says of its seats.
use Rattle.fl_record.specs.Seats.{Place}
use Rattle.fl_board.specs.Shown.{front_of}
use Rattle.fl_counter.specs.Answered.{answered_by}
use Rattle.fl_pool.specs.Working.{Reading, reading}

-- what a board says of a place at it
abbrev pub by_place : Reading Place
by_place = reading (λ place. place.worker) (λ place. place.count) (λ place. answered_by place.worker place.handed) front_of
    (λ place. place.stored)
