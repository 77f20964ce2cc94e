mod LinesLaws
