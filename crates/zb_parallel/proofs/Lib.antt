mod ShareLaws
